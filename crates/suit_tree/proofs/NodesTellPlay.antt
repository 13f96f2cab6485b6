-- A node tells the play of single cards (nodes_tell_play), and its children rise (children_rise).
use Rattle.std.proofs.Common.{◌≡◌, ℕ, zero, suc, ◌+◌, ◌-◌, ◌≤◌, Bool, true, false, List, [], ◌∷◌, ◌++◌, length, map}
use Rattle.std.proofs.Common.{refl, sym, ap, ◌∙◌, subst, arith}
use Rattle.std.specs.Prelude.{AllPairs, Contains, Some, ◌&&◌, filter, if◌then◌else◌, nat_lt}
use Rattle.std.specs.List.{AllByRecursion, flat_map}
use Rattle.std.proofs.lemmas.Bool.{and_parts}
use Rattle.std.proofs.lemmas.List.{append-nil, append_assoc, length-append}
use Rattle.std.proofs.lemmas.List.Elements.{All-from_recursion}
use Rattle.std.proofs.lemmas.List.Kept.{AllPairs-cons, AllPairs-filter}
use Rattle.suit_lists.proofs.Elements.{each_at, each_gives, nil_from_none}
use Rattle.suit_lists.proofs.Filters.{kept_parts}
use Rattle.suit_lists.proofs.FlatMaps.{each_flat_map}
use Rattle.suit_cards.specs.Cards.{Cards, ClassLayout}
use Rattle.suit_game.specs.declared.question.Question.{Question}
use Rattle.suit_game.specs.Histories.{History}
use Rattle.suit_game.specs.PlaceViews.{IsPlay}
use Rattle.suit_game.specs.Validity.{IsValid}
use Rattle.suit_classes.specs.declared.class_moves.ClassMove.{ClassMove}
use Rattle.suit_classes.specs.WhatIsAllowed.{every_move}
use Rattle.suit_classes.specs.ClassGame.{Allows}
use Rattle.suit_classes.specs.ClassMoves.{ClassHistory, merged}
use Rattle.suit_classes.specs.MoveOrder.{stands_before}
use Rattle.suit_classes.specs.ClassPlaces.{class_after, class_decided, class_moves, class_numbers, class_payoff}
use Rattle.suit_classes.specs.Classes.{hands_of, sizes_of}
use Rattle.suit_classes.proofs.ClassGameAgrees.{class_game_agrees}
use Rattle.suit_classes.proofs.AllowedMoveByMove.{allowed_moves}
use Rattle.suit_classes.proofs.DecidedStaysDecided.{class_histories_are_short}
use Rattle.suit_classes.proofs.SameMoves.{same_move_is}
use Rattle.suit_layouts.specs.ClassLayouts.{class_layouts}
use Rattle.suit_tree.specs.declared.node.Node.{Node}
use Rattle.suit_tree.specs.Nodes.{children_of, holds_index, is_held, move_to}
use Rattle.suit_tree.specs.Paths.{is_by, nodes_at, nodes_by}
use Rattle.suit_tree.specs.TreeLaws.{Rise, TellsPlay}
use Rattle.suit_tree.specs.Trees.{IsTreeAt, allowing, counts_at, moves_on}
use Rattle.suit_tree.proofs.OneNodeAtEachPath.{fit_each, kept_layouts}
use Rattle.suit_tree.proofs.NodesFitMoves.{map_fitted, map_fitted_kept}
use Rattle.suit_tree.proofs.ClassMovesLeadToNodes.{held_moves}
use Rattle.suit_tree.proofs.NodePaths.{tree_stands}
use Rattle.suit_game.specs.declared.limits.TheConstants.{MOST_MOVES}

-- a child stands below a history by the move that leads to it
record IsBelow (more : ℕ) (question : Question) (history : ClassHistory) (child : Node) : Type 0 where
  move : ClassMove
  leads : move_to child ≡ Some move
  tree : IsTreeAt more question (history ++ move ∷ []) child

below_each : (more : ℕ) (question : Question) (history : ClassHistory) (node : Node)
    → IsTreeAt (suc more) question history node
    → AllByRecursion (IsBelow more question history) (children_of node)
unfolding IsTreeAt
below_each more question history node tree =
    fit_each (λ move child. (move_to child ≡ Some move)
    × IsTreeAt more question (history ++ move ∷ []) child) (IsBelow more question history)
    (λ move child fits. record { move = move; leads = fits.0; tree = fits.1 }) (moves_on question history)
    (children_of node) tree.1

-- a node stands at the end of a path from a history on
record StandsBelow (more : ℕ) (question : Question) (history path : ClassHistory) (node : Node) : Type 0 where
  few : length path ≤ more
  tree : IsTreeAt (more - length path) question (history ++ path) node

longer_path : (more : ℕ) (question : Question) (history : ClassHistory) (move : ClassMove) (path : ClassHistory)
    (node : Node)
    → StandsBelow more question (history ++ move ∷ []) path node
    → StandsBelow (suc more) question history (move ∷ path) node
longer_path more question history move path node at =
    let left : more - length path ≡ suc more - length (move ∷ path) = omega arith in
    record {
      few = omega (arith, at.few);
      tree = subst (λ (n : ℕ). IsTreeAt n question (history ++ move ∷ path) node) left
          (subst (λ (h : ClassHistory). IsTreeAt (more - length path) question h node)
          (append_assoc history (move ∷ []) path) at.tree);
    }

none_below : (move : ClassMove) (path : ClassHistory) (question : Question) (history : ClassHistory) (node : Node)
    → IsTreeAt zero question history node → nodes_at (move ∷ path) node ≡ []
unfolding IsTreeAt nodes_at
none_below move path question history node tree =
    ap (λ (l : List Node). flat_map (nodes_at path) (nodes_by move l)) tree.1

-- each node at a path does
stand_below : (more : ℕ) (question : Question) (history path : ClassHistory) (node : Node)
    → IsTreeAt more question history node
    → AllByRecursion (StandsBelow more question history path) (nodes_at path node)
unfolding nodes_at
stand_below more question history [] node tree =
    let all : more ≡ more - 0 = omega arith in (
      record {
        few = omega arith;
        tree = subst (λ (n : ℕ). IsTreeAt n question (history ++ []) node) all
            (subst (λ (h : ClassHistory). IsTreeAt more question h node) (sym (append-nil history)) tree);
      },
      tt,
    )
stand_below zero question history (move ∷ path) node tree =
    subst (AllByRecursion (StandsBelow zero question history (move ∷ path)))
    (sym (none_below move path question history node tree)) tt
stand_below (suc more) question history (move ∷ path) node tree =
    each_flat_map (StandsBelow (suc more) question history (move ∷ path)) (nodes_at path)
    (nodes_by move (children_of node))
    (λ child found.
    let parts = kept_parts (λ other. is_by move (move_to other)) (children_of node) child found in
    let below = each_at (IsBelow more question history) (children_of node) child
    (below_each more question history node tree) parts.0 in
    let same : move ≡ below.move = same_move_is move below.move (sym (ap (is_by move) below.leads) ∙ parts.1) in
    let here = subst (λ (m : ClassMove). IsTreeAt more question (history ++ m ∷ []) child) (sym same) below.tree in
    each_gives (StandsBelow more question (history ++ move ∷ []) path) (StandsBelow (suc more) question history (move
    ∷ path)) (nodes_at path child)
    (λ there at. longer_path more question history move path there at)
    (stand_below more question (history ++ move ∷ []) path child here))

-- the moves to the children that hold a class layout are its class moves, also where the tree may go no deeper
children_moves : (more : ℕ) (question : Question) (path : ClassHistory) (index : ℕ) (node : Node) → IsValid question
    → length path + more ≡ MOST_MOVES
    → IsTreeAt more question path node → Contains (allowing question path) index
    → class_decided (class_after question path) ≡ false
    → map move_to (filter (holds_index index) (children_of node))
    ≡ map Some (class_moves (class_after question path) (counts_at (class_layouts question (sizes_of question)) index))
unfolding IsTreeAt
children_moves zero question path index node valid long tree held going =
    let counts : ClassLayout = counts_at (class_layouts question (sizes_of question)) index in
    let allowed = ((kept_layouts question path index valid).0 held).1 in
    let none = nil_from_none (class_moves (class_after question path) counts)
    (λ move found.
    let short = class_histories_are_short question counts (path ++ move
    ∷ []) ((allowed_moves question counts path move).1 (allowed, found)) in
    omega (arith, short, long, length-append path (move ∷ []))) in
    ap (λ (l : List Node). map move_to (filter (holds_index index) l)) tree.1 ∙ ap (map Some) (sym none)
children_moves (suc more) question path index node valid long tree held going =
    let Fits : ClassMove → Node → Type 0 = λ move child. (move_to child ≡ Some move)
    × IsTreeAt more question (path ++ move ∷ []) child in
    map_fitted_kept Fits move_to Some (holds_index index)
    (λ move. is_held index (allowing question (path ++ move ∷ [])))
    (moves_on question path) (children_of node) tree.1
    (λ move child fits. let stands = tree_stands more question (path ++ move ∷ []) child fits.1 in
    ap (is_held index) stands.layouts)
    (λ move child may fits. fits.0)
    ∙ ap (map Some) (held_moves question path index valid held going)

-- a node at the path to which a legal history merges tells what play of single cards does after it
pub nodes_tell_play : (question : Question) (west : Cards) (history : History) (root node : Node)
    → IsPlay question west history
    → IsTreeAt MOST_MOVES question [] root → Contains (nodes_at (merged (hands_of question) history) root) node
    → TellsPlay question west history node
nodes_tell_play question west history root node play tree found =
    let path : ClassHistory = merged (hands_of question) history in
    let at = each_at (StandsBelow MOST_MOVES question [] path) (nodes_at path root) node
    (stand_below MOST_MOVES question [] path root tree) found in
    let stands = tree_stands (MOST_MOVES - length path) question path node at.tree in
    let agrees = class_game_agrees question west history play in
    record {
      turn = stands.turn ∙ agrees.turn;
      payoff = λ over.
          stands.payoff
          ∙ ap (λ (b : Bool). if b then class_payoff (class_after question path) else 0) (agrees.decided ∙ over)
          ∙ agrees.payoff;
      moves = λ going index below counts.
          let allowed : Allows question (counts_at (class_layouts question (sizes_of question)) index) path =
          record { west = west; cards = history; play = play; counted = sym counts; merges = refl } in
          children_moves (MOST_MOVES - length path) question path index node play.valid (omega (arith, at.few)) at.tree
          ((kept_layouts question path index play.valid).1 (below, allowed)) (agrees.decided ∙ going)
          ∙ ap (λ (c : ClassLayout). map Some (class_moves (class_after question path) c)) counts
          ∙ ap (map Some) agrees.moves;
    }

-- ---- the order of a node's children

abbrev StandsFirst : ClassMove → ClassMove → Type 0
StandsFirst here there = stands_before here there ≡ true

before_all : ClassMove → List ClassMove → Bool
before_all move [] = true
before_all move (other ∷ moves) = stands_before move other && before_all move moves

in_order : List ClassMove → Bool
in_order [] = true
in_order (move ∷ moves) = before_all move moves && in_order moves

each_later : (move : ClassMove) (moves : List ClassMove) → before_all move moves ≡ true
    → AllByRecursion (StandsFirst move) moves
unfolding before_all
each_later move [] told = tt
each_later move (other ∷ moves) told =
    let parts = and_parts (stands_before move other) (before_all move moves) told in
    (parts.0, each_later move moves parts.1)

all_in_order : (moves : List ClassMove) → in_order moves ≡ true → AllPairs StandsFirst moves
unfolding in_order
all_in_order [] told = λ i j d below within. absurd (omega arith)
all_in_order (move ∷ moves) told =
    let parts = and_parts (before_all move moves) (in_order moves) told in
    AllPairs-cons StandsFirst move moves (All-from_recursion (StandsFirst move) moves (each_later move moves parts.0))
    (all_in_order moves parts.1)

every_move-in_order : in_order every_move ≡ true
unfolding every_move class_numbers in_order before_all
every_move-in_order = refl

pub every_move-rises : AllPairs StandsFirst every_move
every_move-rises = all_in_order every_move every_move-in_order

unless_rises : (over : Bool) (moves : List ClassMove) → AllPairs StandsFirst moves
    → AllPairs StandsFirst (if over then [] else moves)
unless_rises true moves rise = λ i j d below within. absurd (omega arith)
unless_rises false moves rise = rise

moves_on-rises : (question : Question) (path : ClassHistory) → AllPairs StandsFirst (moves_on question path)
unfolding moves_on
moves_on-rises question path =
    let some : ClassMove → Bool = λ move. nat_lt 0 (length (allowing question (path ++ move ∷ []))) in
    unless_rises (class_decided (class_after question path)) (filter some every_move)
    (AllPairs-filter StandsFirst some every_move every_move-rises)

tree_rises : (more : ℕ) (question : Question) (path : ClassHistory) (node : Node) → IsTreeAt more question path node
    → Rise (children_of node)
unfolding IsTreeAt
tree_rises zero question path node tree = record {
  moves = [];
  lead = ap (map move_to) tree.1;
  order = λ i j d below within. absurd (omega arith);
}
tree_rises (suc more) question path node tree =
    let Fits : ClassMove → Node → Type 0 = λ move child. (move_to child ≡ Some move)
    × IsTreeAt more question (path ++ move ∷ []) child in
    record {
      moves = moves_on question path;
      lead = map_fitted Fits move_to Some (moves_on question path) (children_of node) tree.1
          (λ move child found fits. fits.0);
      order = moves_on-rises question path;
    }

-- the moves to the nodes below a node rise
pub children_rise : (question : Question) (path : ClassHistory) (root node : Node) → IsTreeAt MOST_MOVES question [] root
    → Contains (nodes_at path root) node → Rise (children_of node)
children_rise question path root node tree found =
    let at = each_at (StandsBelow MOST_MOVES question [] path) (nodes_at path root) node
    (stand_below MOST_MOVES question [] path root tree) found in
    tree_rises (MOST_MOVES - length path) question path node at.tree
