-- What a walk over reached class histories tells: the moves of the support (`own_kept`, `their_kept`), where it goes on
-- (`goes_in_is`, `child_goes`, `child_some`), what it is there (`child_reach`), and that these are the class histories
-- that go on (`next_below`, `histories_below`).
use Rattle.std.proofs.Common.{◌≡◌, ℕ, zero, suc, ◌+◌, ◌-◌, ◌<◌, ◌≤◌}
use Rattle.std.proofs.Common.{Bool, true, false, cond, List, [], ◌∷◌, ◌++◌, length}
use Rattle.std.proofs.Common.{map, refl, sym, ap, ◌∙◌, subst, arith, get_or, Option, inl, inr}
use Rattle.std.specs.Prelude.{◌&&◌, ◌||◌, Contains, filter, nat_lt, if◌then◌else◌}
use Rattle.std.specs.List.{flat_map, list_any}
use Rattle.std.specs.Option.{option_copied}
use Rattle.std.proofs.lemmas.Bool.{cases_Bool, false≢true, false_from_ne_true, ltb-true}
use Rattle.std.proofs.lemmas.List.{append-nil, append_assoc, length-append, length-map}
use Rattle.std.proofs.lemmas.List.Elements.{Contains-get_or, filter_agree}
use Rattle.std.proofs.lemmas.Simd.{map-map}
use Rattle.suit_cards.specs.Cards.{ClassLayout, Indices}
use Rattle.suit_lists.proofs.Elements.{Contains-same, each_at, nil_from_none}
use Rattle.suit_lists.proofs.Filters.{any_kept, filter-filter, filter_of_map, filter_same, kept_parts}
use Rattle.suit_lists.proofs.FlatMaps.{any_flat_map, flat_map_alike, flat_map_kept, flat_map_map}
use Rattle.suit_lists.proofs.Maps.{Contains-map, Contains-map_from}
use Rattle.suit_lists.proofs.Once.{IsOnce}
use Rattle.suit_lists.proofs.Tests.{any_of_map, any_same, some_passing}
use Rattle.suit_game.specs.declared.question.Question.{Question}
use Rattle.suit_game.specs.declared.limits.TheConstants.{MOST_MOVES}
use Rattle.suit_classes.specs.declared.class_moves.ClassMove.{ClassMove}
use Rattle.suit_classes.specs.declared.class_view.ClassView.{ClassView}
use Rattle.suit_classes.specs.WhatIsAllowed.{every_move, is_among}
use Rattle.suit_classes.specs.ClassMoves.{ClassHistory, same_class_move}
use Rattle.suit_classes.specs.ClassPlaces.{class_after, class_decided, class_moves, class_turn}
use Rattle.suit_classes.proofs.DistinctMoves.{once_class_moves}
use Rattle.suit_classes.proofs.EveryMove.{class_moves_listed}
use Rattle.suit_classes.proofs.SameMoves.{among-Contains, among_contained, both_second, same_move-itself, same_move_is}
use Rattle.suit_plans.specs.Masses.{is_declarers, is_defences, is_first}
use Rattle.suit_plans.specs.ReplyLaws.{counts_at}
use Rattle.suit_plans.proofs.TurnMoves.{declarers_moves}
use Rattle.suit_plans.proofs.WhoseTurns.{Declarers, Defences, Over, WhoseTurn, own_turn, their_turn, whose_turn}
use Rattle.suit_tree.specs.declared.node.Node.{Node}
use Rattle.suit_tree.specs.Nodes.{children_of, holds_index, is_held, move_of, turn_at}
use Rattle.suit_tree.specs.Trees.{IsTreeAt, allowing, layout_indices, moves_on}
use Rattle.suit_tree.proofs.ClassMovesLeadToNodes.{going_on, held_is, index_goes_on, some_held}
use Rattle.suit_tree.proofs.MovesOn.{moves_on-parts}
use Rattle.suit_tree.proofs.NodePaths.{tree_stands}
use Rattle.suit_program.specs.declared.supports.mark.Mark.{Mark}
use Rattle.suit_program.specs.declared.walks.reach.Reach.{Reach}
use Rattle.suit_program.specs.declared.walks.reach.ReachedLayout.{ReachedLayout}
use Rattle.suit_program.specs.Supports.Marks.{mark_after, named_on}
use Rattle.suit_program.specs.Walks.Reaches.{IsReach, goes_in, goes_on, layout_after, layout_seen, layouts_after}
use Rattle.suit_program.specs.Walks.Reaches.{nodes_in, own_has, own_named, reached_indices, their_has, their_named}
use Rattle.suit_program.specs.Supports.{Support, declarer_chooses, defence_chooses, first_and, histories_from}
use Rattle.suit_program.specs.Supports.{is_reached, layouts_of, legal_moves, names, next_moves, reached_layouts}
use Rattle.suit_program.specs.Supports.{supported_moves}
use Rattle.suit_program.proofs.lemmas.Supports.WhatMarksName.{same_turned}
use Rattle.suit_program.proofs.lemmas.Walks.NodesBelow.{child_below, held_below, index_allows, layout_at}
use Rattle.suit_program.proofs.lemmas.Walks.NodesBelow.{moves_below, moves_short, own_below, reached_at}
use Rattle.suit_program.proofs.lemmas.Supports.WhatIsReached.{reached-push}
use Rattle.suit_program.proofs.lemmas.Supports.TurnCases.{legal_going, own_supported, supported_class_move}
use Rattle.suit_program.proofs.lemmas.Supports.TurnCases.{supported_going}

-- ---- the first of some moves, and those that are named

pub first_and_agree : (f g : ClassMove → Bool) (moves : List ClassMove) → ((move : ClassMove) → f move ≡ g move)
    → first_and f moves ≡ first_and g moves
first_and_agree f g [] same = refl
first_and_agree f g (first ∷ moves) same = ap (λ (l : List ClassMove). first ∷ l) (filter_agree f g same moves)

-- whether a move is among those that pass a test
pub among_filter : (named : ClassMove → Bool) (moves : List ClassMove) (move : ClassMove)
    → is_among (filter named moves) move ≡ (is_among moves move && named move)
unfolding is_among
among_filter named [] move = refl
among_filter named (first ∷ moves) move =
    either (named first) (same_class_move move first) refl refl
    (among_filter named moves move)
  where
    either : (b c : Bool) → named first ≡ b → same_class_move move first ≡ c
        → list_any (same_class_move move) (filter named moves)
        ≡ (list_any (same_class_move move) moves && named move)
        → list_any (same_class_move move) (cond b (first ∷ filter named moves) (filter named moves))
        ≡ ((c || list_any (same_class_move move) moves) && named move)
    either true true is same rest =
        ap (λ (c : Bool). c || list_any (same_class_move move) (filter named moves)) same
        ∙ sym (ap named (same_move_is move first same) ∙ is)
    either true false is other rest =
        ap (λ (c : Bool). c || list_any (same_class_move move) (filter named moves)) other ∙ rest
    either false true is same rest =
        rest ∙ ap (λ (c : Bool). list_any (same_class_move move) moves && c) (ap named (same_move_is move first same)
        ∙ is)
        ∙ none (list_any (same_class_move move) moves) ∙ sym (ap named (same_move_is move first same) ∙ is)
      where
        none : (b : Bool) → (b && false) ≡ false
        none true = refl
        none false = refl
    either false false is other rest = rest

-- whether it is among the first and those that are named
pub among_kept : (named : ClassMove → Bool) (moves : List ClassMove) (move : ClassMove)
    → is_among (first_and named moves) move ≡ (is_among moves move && (named move || is_first moves move))
unfolding is_among
among_kept named [] move = refl
among_kept named (first ∷ moves) move =
    ap (λ (b : Bool). same_class_move move first || b) (among_filter named moves move)
    ∙ either (same_class_move move first) (list_any (same_class_move move) moves) (named move)
    ∙ ap (λ (b : Bool). (same_class_move move first || list_any (same_class_move move) moves) && (named move || b))
    (same_turned move first)
  where
    either : (c rest n : Bool) → (c || (rest && n)) ≡ ((c || rest) && (n || c))
    either true rest true = refl
    either true rest false = refl
    either false true true = refl
    either false true false = refl
    either false false n = refl

-- of different moves, each the first one or named
pub first_kept : (named : ClassMove → Bool) (moves : List ClassMove) → IsOnce moves
    → filter (λ move. named move || is_first moves move) moves ≡ first_and named moves
unfolding IsOnce
first_kept named [] once = refl
first_kept named (first ∷ moves) once =
    ap (λ (b : Bool). cond b (first ∷ filter test moves) (filter test moves)) (here (named first))
    ∙ ap (λ (l : List ClassMove). first ∷ l) (filter_same test named moves
    (λ move found. later move found (named move)))
  where
    test : ClassMove → Bool
    test move = named move || same_class_move first move

    here : (b : Bool) → (b || same_class_move first first) ≡ true
    here true = refl
    here false = same_move-itself first

    later : (move : ClassMove) → Contains moves move → (b : Bool) → (b || same_class_move first move) ≡ b
    later move found true = refl
    later move found false =
        false_from_ne_true (same_class_move first move)
        (λ same. each_at (λ other. first ≡ other → ⊥) moves move once.0 found (same_move_is first move same))

-- ---- a walk at a class history

module _ (question : Question) (support : Support) (history : ClassHistory) (reach : Reach)
    (is : IsReach question support history reach) where
  abbrev view : ClassView
  view = class_after question history

  abbrev children : List Node
  children = children_of reach.node

  abbrev indices : Indices
  indices = reached_indices question support history

  abbrev counts_of : ReachedLayout → ClassLayout
  counts_of layout = counts_at question layout.index

  -- whose turn it is
  pub turn_is : turn_at reach.node ≡ class_turn view
  turn_is = (tree_stands (MOST_MOVES - length history) question history reach.node is.tree).turn

  -- what it names
  pub own_named_is : (move : ClassMove) → support.declarers history move ≡ own_named reach move
  unfolding named_on
  own_named_is move =
      subst (λ (h : ClassHistory). support.declarers h move ≡ own_named reach move) (append-nil history)
      (is.own [] move)

  pub their_named_is : (layout : ReachedLayout) → Contains reach.layouts.items layout → (move : ClassMove)
      → support.defences (counts_of layout) history move ≡ their_named reach layout move
  unfolding named_on
  their_named_is layout found move =
      subst (λ (h : ClassHistory). support.defences (counts_of layout) h move ≡ their_named reach layout move)
      (append-nil history) (is.theirs layout found [] move)

  -- its class layouts
  pub layout_held : (layout : ReachedLayout) → Contains reach.layouts.items layout → Contains indices layout.index
  layout_held layout found =
      Contains-same layout.index is.layouts
      (Contains-map (λ (other : ReachedLayout). other.index) reach.layouts.items layout found)

  index_allowed : (index : ℕ) → Contains indices index → Contains (allowing question history) index
  index_allowed index found = index_allows question support history is.valid index found

  -- the first of them
  abbrev first_index : ℕ
  first_index = get_or indices 0 0

  first_held : Contains indices first_index
  first_held = Contains-get_or indices 0 0 is.some

  -- ---- the moves of the support

  own_moves_are : is_declarers (class_turn view) ≡ true → map move_of children ≡ legal_moves question [] history
  own_moves_are own =
      let going = (own_turn view own).0 in
      own_below question is.valid history reach.node is.tree first_index
      (index_allowed first_index first_held) going own
      ∙ declarers_moves view (counts_at question first_index) [] own
      ∙ sym (legal_going question support [] history [] going)

  own_once : is_declarers (class_turn view) ≡ true → IsOnce (map move_of children)
  own_once own =
      subst (IsOnce {X = ClassMove})
      (sym (own_moves_are own ∙ legal_going question support [] history [] (own_turn view own).0))
      (once_class_moves view [])

  own_names : is_declarers (class_turn view) ≡ true → (west : ClassLayout) (move : ClassMove)
      → names question support west history move ≡ own_named reach move
  own_names own west move =
      ap (λ (b : Bool). if b then support.declarers history move else support.defences west history move) own
      ∙ own_named_is move

  own_is : is_declarers (class_turn view) ≡ true
      → supported_moves question support [] history ≡ first_and (own_named reach) (map move_of children)
  unfolding supported_moves
  own_is own =
      first_and_agree (names question support [] history) (own_named reach) (legal_moves question [] history)
      (own_names own [])
      ∙ ap (first_and (own_named reach)) (sym (own_moves_are own))

  -- those of declarer's
  pub own_kept : is_declarers (class_turn view) ≡ true
      → filter (own_has reach) (map move_of children) ≡ supported_moves question support [] history
  own_kept own = first_kept (own_named reach) (map move_of children) (own_once own) ∙ sym (own_is own)

  their_moves_are : (index : ℕ) → Contains indices index → class_decided view ≡ false
      → map move_of (nodes_in reach index) ≡ legal_moves question (counts_at question index) history
  their_moves_are index found going =
      held_below question is.valid history reach.node is.tree index (index_allowed index found) going
      ∙ sym (legal_going question support [] history (counts_at question index) going)

  their_names : is_defences (class_turn view) ≡ true → (layout : ReachedLayout) → Contains reach.layouts.items layout
      → (move : ClassMove) → names question support (counts_of layout) history move ≡ their_named reach layout move
  their_names theirs layout found move =
      ap (λ (b : Bool). if b then support.declarers history move
      else support.defences (counts_of layout) history move) (their_turn view theirs).1
      ∙ their_named_is layout found move

  their_is : is_defences (class_turn view) ≡ true → (layout : ReachedLayout) → Contains reach.layouts.items layout
      → supported_moves question support (counts_of layout) history
      ≡ first_and (their_named reach layout) (map move_of (nodes_in reach layout.index))
  unfolding supported_moves
  their_is theirs layout found =
      first_and_agree (names question support (counts_of layout) history) (their_named reach layout)
      (legal_moves question (counts_of layout) history) (their_names theirs layout found)
      ∙ ap (first_and (their_named reach layout))
      (sym (their_moves_are layout.index (layout_held layout found) (their_turn view theirs).0))

  -- and those of the defence's in a class layout
  pub their_kept : is_defences (class_turn view) ≡ true → (layout : ReachedLayout)
      → Contains reach.layouts.items layout
      → map move_of (filter (their_has reach layout) children)
      ≡ supported_moves question support (counts_of layout) history
  their_kept theirs layout found =
      let moves : List ClassMove = map move_of (nodes_in reach layout.index) in
      let test : ClassMove → Bool = λ move. their_named reach layout move || is_first moves move in
      let going = (their_turn view theirs).0 in
      ap (map move_of) (sym (filter-filter (holds_index layout.index) (λ child. test (move_of child)) children))
      ∙ sym (filter_of_map test move_of (nodes_in reach layout.index))
      ∙ first_kept (their_named reach layout) moves
      (subst (IsOnce {X = ClassMove})
      (sym (held_below question is.valid history reach.node is.tree layout.index
      (index_allowed layout.index (layout_held layout found)) going))
      (once_class_moves view (counts_of layout)))
      ∙ sym (their_is theirs layout found)

  -- ---- choices

  both_lengths : (b c : Bool) (m n : ℕ) → b ≡ c → (c ≡ true → m ≡ n) → (b && nat_lt 1 m) ≡ (c && nat_lt 1 n)
  both_lengths b true m n same long = ap (λ (d : Bool). d && nat_lt 1 m) same ∙ ap (nat_lt 1) (long refl)
  both_lengths b false m n same long = ap (λ (d : Bool). d && nat_lt 1 m) same

  pub own_chooses : (is_declarers (turn_at reach.node) && nat_lt 1 (length children))
      ≡ declarer_chooses question history
  unfolding declarer_chooses
  own_chooses =
      both_lengths (is_declarers (turn_at reach.node)) (is_declarers (class_turn view)) (length children)
      (length (legal_moves question [] history)) (ap is_declarers turn_is)
      (λ own. sym (length-map children move_of) ∙ ap (λ (l : List ClassMove). length l) (own_moves_are own))

  pub they_choose : (index : ℕ) → Contains indices index
      → (is_defences (turn_at reach.node) && nat_lt 1 (length (nodes_in reach index)))
      ≡ defence_chooses question (counts_at question index) history
  unfolding defence_chooses
  they_choose index found =
      both_lengths (is_defences (turn_at reach.node)) (is_defences (class_turn view)) (length (nodes_in reach index))
      (length (legal_moves question (counts_at question index) history)) (ap is_defences turn_is)
      (λ theirs. sym (length-map (nodes_in reach index) move_of)
      ∙ ap (λ (l : List ClassMove). length l) (their_moves_are index found (their_turn view theirs).0))

  -- told by what is read of the node
  own_chooses_by : (b : Bool) (count : ℕ) → b ≡ is_declarers (turn_at reach.node) → count ≡ length children
      → (b && nat_lt 1 count) ≡ declarer_chooses question history
  own_chooses_by b count same long =
      ap (λ (c : Bool). c && nat_lt 1 count) same
      ∙ ap (λ (n : ℕ). is_declarers (turn_at reach.node) && nat_lt 1 n) long ∙ own_chooses

  pub own_told : (b : Bool) (count : ℕ) → b ≡ is_declarers (turn_at reach.node) → count ≡ length children
      → b ≡ true → nat_lt 1 count ≡ declarer_chooses question history
  own_told b count same long is =
      ap (λ (c : Bool). c && nat_lt 1 count) (sym is) ∙ own_chooses_by b count same long

  pub own_not : (b : Bool) → b ≡ is_declarers (turn_at reach.node) → b ≡ false
      → b ≡ declarer_chooses question history
  own_not b same not =
      not ∙ ap (λ (c : Bool). c && nat_lt 1 (length children)) (sym not)
      ∙ own_chooses_by b (length children) same refl

  they_choose_by : (index : ℕ) → Contains indices index → (b : Bool) (count : ℕ)
      → b ≡ is_defences (turn_at reach.node) → count ≡ length (nodes_in reach index)
      → (b && nat_lt 1 count) ≡ defence_chooses question (counts_at question index) history
  they_choose_by index found b count same long =
      ap (λ (c : Bool). c && nat_lt 1 count) same
      ∙ ap (λ (n : ℕ). is_defences (turn_at reach.node) && nat_lt 1 n) long ∙ they_choose index found

  pub they_told : (index : ℕ) → Contains indices index → (b : Bool) (count : ℕ)
      → b ≡ is_defences (turn_at reach.node) → count ≡ length (nodes_in reach index) → b ≡ true
      → nat_lt 1 count ≡ defence_chooses question (counts_at question index) history
  they_told index found b count same long is =
      ap (λ (c : Bool). c && nat_lt 1 count) (sym is) ∙ they_choose_by index found b count same long

  pub they_not : (index : ℕ) → Contains indices index → (b : Bool) → b ≡ is_defences (turn_at reach.node)
      → b ≡ false → b ≡ defence_chooses question (counts_at question index) history
  they_not index found b same not =
      not ∙ ap (λ (c : Bool). c && nat_lt 1 (length (nodes_in reach index))) (sym not)
      ∙ they_choose_by index found b (length (nodes_in reach index)) same refl

  -- ---- where it goes on

  child_moves : (child : Node) → Contains children child → Contains (moves_on question history) (move_of child)
  child_moves child below = (child_below question is.valid history reach.node is.tree child below).2

  child_going : (child : Node) → Contains children child → class_decided view ≡ false
  child_going child below = (moves_on-parts question history (move_of child) (child_moves child below)).0

  child_holds : (child : Node) → Contains children child → (index : ℕ) → Contains indices index
      → holds_index index child ≡ is_among (class_moves view (counts_at question index)) (move_of child)
  child_holds child below index found =
      let stands = child_below question is.valid history reach.node is.tree child below in
      ap (is_held index) (tree_stands (MOST_MOVES - length (history ++ move_of child ∷ [])) question
      (history ++ move_of child ∷ []) child stands.1).layouts
      ∙ held_is question history (move_of child) index is.valid (index_allowed index found)

  true_first : (b c : Bool) → b ≡ true → (b && c) ≡ c
  true_first true c is = refl
  true_first false c is = absurd (false≢true is)

  goes_own : (layout : ReachedLayout) → Contains reach.layouts.items layout → (child : Node)
      → Contains children child → is_declarers (class_turn view) ≡ true
      → goes_in reach layout child ≡ is_among (supported_moves question support (counts_of layout) history)
      (move_of child)
  goes_own layout found child below own =
      let moves : List ClassMove = map move_of children in
      ap (λ (b : Bool). if b then own_has reach (move_of child) else their_has reach layout child)
      (ap is_declarers turn_is ∙ own)
      ∙ sym (true_first (is_among moves (move_of child)) (own_has reach (move_of child))
      (among_contained moves (move_of child) (Contains-map move_of children child below)))
      ∙ sym (among_kept (own_named reach) moves (move_of child))
      ∙ ap (λ (l : List ClassMove). is_among l (move_of child))
      (sym (own_supported question support (counts_of layout) history (own_turn view own).0 own ∙ own_is own))

  goes_theirs : (layout : ReachedLayout) → Contains reach.layouts.items layout → (child : Node)
      → Contains children child → is_defences (class_turn view) ≡ true
      → goes_in reach layout child ≡ is_among (supported_moves question support (counts_of layout) history)
      (move_of child)
  goes_theirs layout found child below theirs =
      let moves : List ClassMove = map move_of (nodes_in reach layout.index) in
      let turn = their_turn view theirs in
      let held = layout_held layout found in
      ap (λ (b : Bool). if b then own_has reach (move_of child) else their_has reach layout child)
      (ap is_declarers turn_is ∙ turn.1)
      ∙ ap (λ (b : Bool). b && (their_named reach layout (move_of child) || is_first moves (move_of child)))
      (child_holds child below layout.index held
      ∙ ap (λ (l : List ClassMove). is_among l (move_of child))
      (sym (held_below question is.valid history reach.node is.tree layout.index (index_allowed layout.index held)
      turn.0)))
      ∙ sym (among_kept (their_named reach layout) moves (move_of child))
      ∙ ap (λ (l : List ClassMove). is_among l (move_of child)) (sym (their_is theirs layout found))

  -- in a class layout to the nodes by the moves of the support
  pub goes_in_is : (layout : ReachedLayout) → Contains reach.layouts.items layout → (child : Node)
      → Contains children child
      → goes_in reach layout child ≡ is_among (supported_moves question support (counts_of layout) history)
      (move_of child)
  goes_in_is layout found child below = at (whose_turn view)
    where
      at : WhoseTurn view → goes_in reach layout child
          ≡ is_among (supported_moves question support (counts_of layout) history) (move_of child)
      at (Over decided turn) = absurd (false≢true (sym (child_going child below) ∙ decided))
      at (Declarers going own not_theirs) = goes_own layout found child below own
      at (Defences going not_own theirs) = goes_theirs layout found child below theirs

  -- ---- the class histories that go on

  abbrev all : List ClassMove
  all = flat_map (λ (layout : ClassLayout × ℕ). supported_moves question support layout.0 history)
      (reached_layouts question support history)

  all_among : (move : ClassMove) → is_among all move
      ≡ list_any (λ (layout : ReachedLayout). is_among (supported_moves question support (counts_of layout) history)
      move) reach.layouts.items
  unfolding is_among
  all_among move =
      let has : ClassLayout × ℕ → Bool = λ layout. is_among (supported_moves question support layout.0 history) move in
      any_flat_map (same_class_move move)
      (λ (layout : ClassLayout × ℕ). supported_moves question support layout.0 history)
      (reached_layouts question support history)
      ∙ ap (list_any has) (reached_at question support history)
      ∙ any_of_map has (layout_at question) indices
      ∙ ap (list_any (λ index. has (layout_at question index))) (sym is.layouts)
      ∙ any_of_map (λ index. has (layout_at question index)) (λ (layout : ReachedLayout). layout.index)
      reach.layouts.items

  -- a move with which it goes on is legal in some class layout
  next_legal : (move : ClassMove) → is_among all move ≡ true → (layout : ReachedLayout)
      × Contains reach.layouts.items layout
      × Contains (supported_moves question support (counts_of layout) history) move
  next_legal move among =
      let some = some_passing (λ (layout : ReachedLayout). is_among
      (supported_moves question support (counts_of layout) history) move) reach.layouts.items
      (sym (all_among move) ∙ among) in
      (some.0, some.1, among-Contains (supported_moves question support (counts_of some.0) history) move some.2)

  listed_move : (move : ClassMove) → is_among all move ≡ true → is_among every_move move ≡ true
  listed_move move among =
      let some = next_legal move among in
      let moves : List ClassMove = class_moves view (counts_of some.0) in
      among_contained every_move move
      (kept_parts (is_among moves) every_move move
      (Contains-same move (class_moves_listed view (counts_of some.0))
      (supported_class_move question support (counts_of some.0) history move some.2))).0

  pub next_among : (move : ClassMove) → is_among (next_moves question support history) move ≡ is_among all move
  unfolding next_moves
  next_among move =
      among_filter (is_among all) every_move move
      ∙ both_second (is_among every_move move) (is_among all move) (listed_move move)

  -- to a node below it goes on where it does in some class layout
  pub child_goes : (child : Node) → Contains children child
      → goes_on question support history child
      ≡ list_any (λ layout. goes_in reach layout child) reach.layouts.items
  child_goes child below =
      next_among (move_of child) ∙ all_among (move_of child)
      ∙ sym (any_same (λ (layout : ReachedLayout). goes_in reach layout child)
      (λ (layout : ReachedLayout). is_among (supported_moves question support (counts_of layout) history)
      (move_of child)) reach.layouts.items (λ layout found. goes_in_is layout found child below))

  -- and then the list of these class layouts is not empty
  pub child_some : (child : Node) → (layouts : List ReachedLayout) → map layout_seen layouts ≡ layouts_after reach child
      → list_any (λ layout. goes_in reach layout child) reach.layouts.items ≡ true → 0 < length layouts
  child_some child layouts after goes =
      let kept : List ReachedLayout = filter (λ layout. goes_in reach layout child) reach.layouts.items in
      ltb-true 0 (length layouts)
      (ap (nat_lt 0) (sym (length-map layouts layout_seen)
      ∙ ap (λ (l : List (ℕ × Option Mark)). length l) after
      ∙ length-map kept (layout_after (move_of child)))
      ∙ sym (any_kept (λ (layout : ReachedLayout). goes_in reach layout child) reach.layouts.items) ∙ goes)

  -- ---- a walk there

  child_indices : (child : Node) → Contains children child
      → map (λ (layout : ReachedLayout). layout.index)
      (filter (λ layout. goes_in reach layout child) reach.layouts.items)
      ≡ reached_indices question support (history ++ move_of child ∷ [])
  unfolding reached_indices
  child_indices child below =
      let move : ClassMove = move_of child in
      let all_indices : Indices = layout_indices (layouts_of question) in
      let reached : ℕ → Bool = λ index. is_reached question support (counts_at question index) history in
      let goes : ℕ → Bool =
      λ index. is_among (supported_moves question support (counts_at question index) history) move in
      ap (map (λ (layout : ReachedLayout). layout.index))
      (filter_same (λ layout. goes_in reach layout child) (λ layout. goes layout.index) reach.layouts.items
      (λ layout found. goes_in_is layout found child below))
      ∙ sym (filter_of_map goes (λ (layout : ReachedLayout). layout.index) reach.layouts.items)
      ∙ ap (filter goes) is.layouts
      ∙ filter-filter reached goes all_indices
      ∙ filter_agree (λ index. reached index && goes index)
      (λ index. is_reached question support (counts_at question index) (history ++ move ∷ []))
      (λ index. sym (reached-push question support (counts_at question index) history move)) all_indices

  module _ (child : Node) (below : Contains children child) (next : Reach) (node : next.node ≡ child)
      (same : next.all ≡ reach.all)
      (own : option_copied next.own ≡ mark_after (option_copied reach.own) (move_of child))
      (after : map layout_seen next.layouts.items ≡ layouts_after reach child)
      (some : 0 < length next.layouts.items) where
    next_indices : map (λ (layout : ReachedLayout). layout.index) next.layouts.items
        ≡ reached_indices question support (history ++ move_of child ∷ [])
    next_indices =
        let kept : List ReachedLayout = filter (λ layout. goes_in reach layout child) reach.layouts.items in
        sym (map-map (λ (seen : ℕ × Option Mark). seen.0) layout_seen next.layouts.items)
        ∙ ap (map (λ (seen : ℕ × Option Mark). seen.0)) after
        ∙ map-map (λ (seen : ℕ × Option Mark). seen.0) (layout_after (move_of child)) kept
        ∙ child_indices child below

    own_after : (moves : ClassHistory) (move : ClassMove)
        → support.declarers ((history ++ move_of child ∷ []) ++ moves) move
        ≡ (next.all || named_on (option_copied next.own) moves move)
    unfolding named_on
    own_after moves move =
        ap (λ (h : ClassHistory). support.declarers h move) (append_assoc history (move_of child ∷ []) moves)
        ∙ is.own (move_of child ∷ moves) move
        ∙ ap (λ (b : Bool). b || named_on (mark_after (option_copied reach.own) (move_of child)) moves move) (sym same)
        ∙ ap (λ (mark : Option Mark). next.all || named_on mark moves move) (sym own)

    from_layout : (layout : ReachedLayout) → Contains next.layouts.items layout → (before : ReachedLayout)
        × Contains reach.layouts.items before × (layout_after (move_of child) before ≡ layout_seen layout)
    from_layout layout found =
        let kept : List ReachedLayout = filter (λ other. goes_in reach other child) reach.layouts.items in
        let from = Contains-map_from (layout_after (move_of child)) kept (layout_seen layout)
        (Contains-same (layout_seen layout) after
        (Contains-map layout_seen next.layouts.items layout found)) in
        (from.0, (kept_parts (λ other. goes_in reach other child) reach.layouts.items from.0 from.1).0, from.2)

    theirs_after : (layout : ReachedLayout) → Contains next.layouts.items layout
        → (moves : ClassHistory) (move : ClassMove)
        → support.defences (counts_at question layout.index) ((history ++ move_of child ∷ []) ++ moves) move
        ≡ (next.all || named_on (option_copied layout.named) moves move)
    unfolding named_on
    theirs_after layout found moves move =
        let from = from_layout layout found in
        let index : from.0.index ≡ layout.index = ap (λ (seen : ℕ × Option Mark). seen.0) from.2 in
        let mark : mark_after (option_copied from.0.named) (move_of child) ≡ option_copied layout.named =
        ap (λ (seen : ℕ × Option Mark). seen.1) from.2 in
        ap (λ (h : ClassHistory). support.defences (counts_at question layout.index) h move)
        (append_assoc history (move_of child ∷ []) moves)
        ∙ ap (λ (i : ℕ). support.defences (counts_at question i) (history ++ move_of child ∷ moves) move) (sym index)
        ∙ is.theirs from.0 from.1 (move_of child ∷ moves) move
        ∙ ap (λ (b : Bool). b || named_on (mark_after (option_copied from.0.named) (move_of child)) moves move)
        (sym same)
        ∙ ap (λ (m : Option Mark). next.all || named_on m moves move) mark

    -- with the marks and the class layouts after the move it stands at the class history after it
    pub child_reach : IsReach question support (history ++ move_of child ∷ []) next
    child_reach = record {
      valid = is.valid;
      tree = subst (IsTreeAt (MOST_MOVES - length (history ++ move_of child ∷ [])) question
          (history ++ move_of child ∷ []))
          (sym node) (child_below question is.valid history reach.node is.tree child below).1;
      some = omega (
        arith,
        some,
        ap (λ (l : Indices). length l) next_indices,
        length-map next.layouts.items (λ (layout : ReachedLayout). layout.index),
      );
      layouts = next_indices;
      own = own_after;
      theirs = theirs_after;
    }

  -- ---- what is reached below

  over_none : class_decided view ≡ true → next_moves question support history ≡ []
  over_none decided = nil_from_none (next_moves question support history)
      (λ move found.
      let some = next_legal move (sym (next_among move)
      ∙ among_contained (next_moves question support history) move found) in
      absurd (false≢true (sym (supported_going question support (counts_of some.0) history move some.2) ∙ decided)))

  next_on : (move : ClassMove) → is_among all move ≡ true
      → nat_lt 0 (length (allowing question (history ++ move ∷ []))) ≡ true
  next_on move among =
      let some = next_legal move among in
      let index = some.0.index in
      some_held (allowing question (history ++ move ∷ [])) index
      ((index_goes_on question history move index is.valid (index_allowed index (layout_held some.0 some.1))).1
      (supported_class_move question support (counts_of some.0) history move some.2))

  next_from : class_decided view ≡ false
      → filter (is_among (next_moves question support history)) (moves_on question history)
      ≡ next_moves question support history
  unfolding next_moves
  next_from going =
      let some : ClassMove → Bool = λ move. nat_lt 0 (length (allowing question (history ++ move ∷ []))) in
      ap (filter (is_among (next_moves question support history))) (going_on question history going)
      ∙ filter_agree (is_among (next_moves question support history)) (is_among all) next_among (filter some every_move)
      ∙ filter-filter some (is_among all) every_move
      ∙ filter_agree (λ move. some move && is_among all move) (is_among all)
      (λ move. both_second (some move) (is_among all move) (next_on move)) every_move

  kept_none : (moves : List ClassMove) → filter (is_among []) moves ≡ []
  unfolding is_among
  kept_none [] = refl
  kept_none (move ∷ moves) = kept_none moves

  next_either : filter (is_among (next_moves question support history)) (moves_on question history)
      ≡ next_moves question support history
  next_either = elim (cases_Bool (class_decided view)) [
    | inl decided ↦
        ap (λ (l : List ClassMove). filter (is_among l) (moves_on question history)) (over_none decided)
        ∙ kept_none (moves_on question history) ∙ sym (over_none decided)
    | inr going ↦ next_from going
  ]

  -- the class histories go on by the moves to the nodes to which play does
  pub next_below : next_moves question support history
      ≡ map move_of (filter (goes_on question support history) children)
  next_below =
      sym (ap (filter (is_among (next_moves question support history)))
      (moves_below question is.valid history reach.node is.tree)
      ∙ next_either)
      ∙ filter_of_map (is_among (next_moves question support history)) move_of children

  -- so what is made of each of these moves is made of each of these nodes
  pub made_below : {Y : Type 0} (f : ClassMove → List Y) → flat_map f (next_moves question support history)
      ≡ flat_map (λ child. if goes_on question support history child then f (move_of child) else []) children
  made_below f =
      ap (flat_map f) next_below
      ∙ flat_map_map f move_of (filter (goes_on question support history) children)
      ∙ flat_map_kept (λ child. f (move_of child)) (goes_on question support history) children

  none_below : MOST_MOVES ≤ length history → children ≡ []
  none_below long = nil_from_none children
      (λ child found.
      let below = child_below question is.valid history reach.node is.tree child found in
      let short : length history < MOST_MOVES = moves_short question is.valid history (move_of child) below.2 in
      omega (arith, short, long))

  histories_in : (more : ℕ) → more ≡ MOST_MOVES - length history
      → histories_from question support more history
      ≡ history ∷ flat_map (λ child. if goes_on question support history child
      then histories_from question support (MOST_MOVES - length (history ++ move_of child ∷ []))
      (history ++ move_of child ∷ []) else []) children
  unfolding histories_from
  histories_in zero long =
      let full : MOST_MOVES ≤ length history = omega (arith, long) in
      sym (ap (λ (nodes : List Node). history ∷ flat_map (λ child. if goes_on question support history child
      then histories_from question support (MOST_MOVES - length (history ++ move_of child ∷ []))
      (history ++ move_of child ∷ []) else []) nodes) (none_below full))
  histories_in (suc more) long =
      ap (λ (l : List ClassHistory). history ∷ l)
      (made_below (λ move. histories_from question support more (history ++ move ∷ []))
      ∙ flat_map_alike (λ child. if goes_on question support history child
      then histories_from question support more (history ++ move_of child ∷ []) else [])
      (λ child. if goes_on question support history child
      then histories_from question support (MOST_MOVES - length (history ++ move_of child ∷ []))
      (history ++ move_of child ∷ []) else [])
      children (λ child. ap (λ (left : ℕ). if goes_on question support history child
      then histories_from question support left (history ++ move_of child ∷ []) else [])
      (less more (length history) (length (history ++ move_of child ∷ [])) long
      (length-append history (move_of child ∷ [])))))
    where
      less : (more long longer : ℕ) → suc more ≡ MOST_MOVES - long → longer ≡ long + 1 → more ≡ MOST_MOVES - longer
      less more long longer same next = omega (arith, same, next)

  -- the class histories that are reached from here on: this one, and those from each node below to which play goes on
  pub histories_below : histories_from question support (MOST_MOVES - length history) history
      ≡ history ∷ flat_map (λ child. if goes_on question support history child
      then histories_from question support (MOST_MOVES - length (history ++ move_of child ∷ []))
      (history ++ move_of child ∷ []) else []) children
  histories_below = histories_in (MOST_MOVES - length history) refl
