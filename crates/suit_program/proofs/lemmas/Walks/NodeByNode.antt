-- A walk goes on node by node (`done_more`, `done_past`, `next_parts`, `done_all`).
use Rattle.std.proofs.Common.{◌≡◌, ℕ, ◌+◌, ◌<◌, ◌≤◌, Bool, true, false, cond, List, [], ◌∷◌, ◌++◌, length, get_or}
use Rattle.std.proofs.Common.{map, take, drop, refl, sym, ap, ◌∙◌, append-nil, append_assoc, arith}
use Rattle.std.specs.Prelude.{Contains, filter}
use Rattle.std.specs.List.{flat_map}
use Rattle.suit_lists.proofs.Filters.{length_filter-most}
use Rattle.suit_cards.specs.Cards.{ClassLayout}
use Rattle.suit_game.specs.declared.question.Question.{Question}
use Rattle.std.proofs.lemmas.List.{map-append, take-append-drop, take_all, take_more}
use Rattle.std.proofs.lemmas.List.Elements.{filter-append}
use Rattle.suit_classes.specs.declared.class_moves.ClassMove.{ClassMove}
use Rattle.suit_classes.specs.WhatIsAllowed.{every_move, is_among}
use Rattle.suit_classes.specs.ClassPlaces.{class_numbers}
use Rattle.suit_classes.proofs.SameMoves.{among-Contains}
use Rattle.suit_tree.specs.declared.node.Node.{Node}
use Rattle.suit_tree.specs.Nodes.{children_of, move_of}
use Rattle.suit_program.specs.declared.walks.ledger.Account.{Account}
use Rattle.suit_program.specs.declared.walks.ledger.Ledger.{Ledger}
use Rattle.suit_program.specs.declared.walks.reach.Reach.{Reach}
use Rattle.suit_program.specs.Walks.Reaches.{goes_on}
use Rattle.suit_program.specs.Supports.{Support, next_moves, reached_layouts, supported_moves}
use Rattle.suit_program.specs.Walks.Writing.{IsAsked}
use Rattle.suit_program.proofs.lemmas.Walks.ReachTells.{next_below}
use Rattle.suit_program.specs.declared.walks.reach.TheConstants.{MOST_NEXT}

few_moves : length every_move ≡ MOST_NEXT
unfolding every_move class_numbers
few_moves = refl

-- a class history goes on with few moves
pub next_few : (question : Question) (support : Support) (history : List ClassMove)
    → length (next_moves question support history) ≤ MOST_NEXT
unfolding next_moves
next_few question support history =
    let less = length_filter-most (is_among (flat_map (λ (layout : ClassLayout × ℕ).
    supported_moves question support layout.0 history) (reached_layouts question support history))) every_move in
    let all = few_moves in
    omega (arith, less, all)

module _ (ledger : Ledger) (reach : Reach) (accounts : List Account) (case : IsAsked ledger reach accounts) where
  abbrev pub goes : Node → Bool
  goes = goes_on case.question case.support case.history

  -- the moves to those of some nodes to which play goes on
  abbrev pub done : List Node → List ClassMove
  done nodes = map move_of (filter goes nodes)

  done_append : (xs ys : List Node) → done (xs ++ ys) ≡ done xs ++ done ys
  done_append xs ys =
      ap (map move_of) (filter-append goes xs ys) ∙ map-append move_of (filter goes xs) (filter goes ys)

  one : (nodes : List Node) (index : ℕ) (child : Node) → index < length nodes → child ≡ get_or nodes index child
      → done (take (index + 1) nodes)
      ≡ done (take index nodes) ++ map move_of (cond (goes child) (child ∷ []) [])
  one nodes index child below is =
      ap done (take_more nodes index child below ∙ ap (λ (n : Node). take index nodes ++ n ∷ []) (sym is))
      ∙ done_append (take index nodes) (child ∷ [])

  pub done_more : (nodes : List Node) (index : ℕ) (child : Node) → index < length nodes
      → child ≡ get_or nodes index child → goes child ≡ true
      → done (take (index + 1) nodes) ≡ done (take index nodes) ++ move_of child ∷ []
  done_more nodes index child below is on =
      one nodes index child below is
      ∙ ap (λ (b : Bool). done (take index nodes) ++ map move_of (cond b (child ∷ []) [])) on

  pub done_past : (nodes : List Node) (index : ℕ) (child : Node) → index < length nodes
      → child ≡ get_or nodes index child → goes child ≡ false
      → done (take (index + 1) nodes) ≡ done (take index nodes)
  done_past nodes index child below is off =
      one nodes index child below is
      ∙ ap (λ (b : Bool). done (take index nodes) ++ map move_of (cond b (child ∷ []) [])) off
      ∙ append-nil (done (take index nodes))

  -- all of them are the moves with which the class history goes on
  pub done_all : (index : ℕ) → length (children_of reach.node) ≤ index
      → done (take index (children_of reach.node)) ≡ next_moves case.question case.support case.history
  done_all index past =
      ap done (take_all index (children_of reach.node) past)
      ∙ sym (next_below case.question case.support case.history reach case.reached)

  pub next_parts : (index : ℕ) (child : Node) → index < length (children_of reach.node)
      → child ≡ get_or (children_of reach.node) index child → goes child ≡ true
      → next_moves case.question case.support case.history
      ≡ done (take index (children_of reach.node)) ++ move_of child ∷ done (drop (index + 1) (children_of reach.node))
  next_parts index child below is on =
      let nodes : List Node = children_of reach.node in
      let later : List ClassMove = done (drop (index + 1) nodes) in
      next_below case.question case.support case.history reach case.reached
      ∙ ap done (sym (take-append-drop (index + 1) nodes))
      ∙ done_append (take (index + 1) nodes) (drop (index + 1) nodes)
      ∙ ap (λ (l : List ClassMove). l ++ later) (done_more nodes index child below is on)
      ∙ append_assoc (done (take index nodes)) (move_of child ∷ []) later

  pub next_contained : (child : Node) → goes child ≡ true
      → Contains (next_moves case.question case.support case.history) (move_of child)
  next_contained child on =
      among-Contains (next_moves case.question case.support case.history) (move_of child) on
