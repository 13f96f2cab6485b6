-- To the nodes that hold a class layout lead its class moves, in their order (held_moves).
use Rattle.std.proofs.Common.{◌≡◌, ℕ, Bool, true, false, List, [], ◌∷◌, ◌++◌, length, ap, sym, ◌∙◌, subst, inl}
use Rattle.std.proofs.Common.{inr, arith}
use Rattle.std.specs.Prelude.{◌↔◌, ◌&&◌, ◌==◌, Contains, filter, nat_lt, if◌then◌else◌}
use Rattle.std.specs.Bool.{Decides}
use Rattle.std.proofs.lemmas.Bool.{eq-eqb, eqb-true, false≢true, lt-ltb, or_cases, or_left, or_right}
use Rattle.std.proofs.lemmas.Bool.Decides.{same_from_decides}
use Rattle.std.proofs.lemmas.List.Elements.{filter_agree}
use Rattle.suit_cards.specs.Cards.{ClassLayout, Indices}
use Rattle.suit_game.specs.declared.question.Question.{Question}
use Rattle.suit_game.specs.Validity.{IsValid}
use Rattle.suit_classes.specs.declared.class_moves.ClassMove.{ClassMove}
use Rattle.suit_classes.specs.WhatIsAllowed.{every_move, is_among}
use Rattle.suit_classes.specs.ClassMoves.{ClassHistory}
use Rattle.suit_classes.specs.ClassPlaces.{class_after, class_decided, class_moves}
use Rattle.suit_classes.specs.Classes.{sizes_of}
use Rattle.suit_classes.proofs.AllowedMoveByMove.{allowed_moves}
use Rattle.suit_lists.proofs.Elements.{Contains-cons_cases, Contains-first, Contains-later, Contains-nil}
use Rattle.suit_lists.proofs.Filters.{filter-filter}
use Rattle.suit_classes.proofs.SameMoves.{among_decides, both_second}
use Rattle.suit_layouts.specs.ClassLayouts.{class_layouts}
use Rattle.suit_tree.specs.Nodes.{is_held}
use Rattle.suit_tree.specs.Trees.{allowing, counts_at, moves_on}
use Rattle.suit_tree.proofs.OneNodeAtEachPath.{kept_layouts}
use Rattle.suit_classes.proofs.EveryMove.{class_moves_listed}

-- an index is told to be one of some
pub held_decides : (index : ℕ) (indices : Indices) → Decides (is_held index indices) (Contains indices index)
held_decides index [] = (λ held. absurd (false≢true held), λ found. absurd (Contains-nil index found))
held_decides index (other ∷ indices) =
    let later = held_decides index indices in (
      λ held. elim (or_cases (other == index) (is_held index indices) held) [
        | inl here ↦ subst (λ (p : ℕ). Contains (other ∷ indices) p) (eqb-true other index here)
            (Contains-first other indices)
        | inr there ↦ Contains-later other indices index (later.0 there)
      ],
      λ found. elim (Contains-cons_cases other indices index found) [
        | inl here ↦ or_left (other == index) (is_held index indices) (eq-eqb other index here)
        | inr there ↦ or_right (other == index) (is_held index indices) (later.1 there)
      ],
    )

pub some_held : (indices : Indices) (index : ℕ) → Contains indices index → nat_lt 0 (length indices) ≡ true
some_held indices index found = lt-ltb 0 (length indices) (omega (arith, found.1))

module _ (question : Question) (history : ClassHistory) where
  -- West's counts in the class layout at an index
  abbrev counts_in : ℕ → ClassLayout
  counts_in index = counts_at (class_layouts question (sizes_of question)) index

  -- a class layout that allows a history allows it with one move more where it is a class move
  pub index_goes_on : (move : ClassMove) (index : ℕ) → IsValid question → Contains (allowing question history) index
      → Contains (allowing question (history ++ move ∷ [])) index
      ↔ Contains (class_moves (class_after question history) (counts_in index)) move
  index_goes_on move index valid held =
      let here = (kept_layouts question history index valid).0 held in
      let there = kept_layouts question (history ++ move ∷ []) index valid in
      let goes = allowed_moves question (counts_in index) history move in
      (λ found. (goes.0 (there.0 found).1).1, λ found. there.1 (here.0, goes.1 (here.1, found)))

  -- it holds the node by a move where this is a class move
  pub held_is : (move : ClassMove) (index : ℕ) → IsValid question → Contains (allowing question history) index
      → is_held index (allowing question (history ++ move ∷ []))
      ≡ is_among (class_moves (class_after question history) (counts_in index)) move
  held_is move index valid held =
      let moves : List ClassMove = class_moves (class_after question history) (counts_in index) in
      let kept : Indices = allowing question (history ++ move ∷ []) in
      let goes = index_goes_on move index valid held in
      let tells = held_decides index kept in
      same_from_decides (is_held index kept) (is_among moves move)
      (λ told. goes.0 (tells.0 told), λ found. tells.1 (goes.1 found)) (among_decides moves move)

  pub going_on : class_decided (class_after question history) ≡ false
      → moves_on question history ≡ filter (λ move. nat_lt 0 (length (allowing question (history ++ move ∷ []))))
      every_move
  unfolding moves_on
  going_on going =
      let kept : List ClassMove = filter (λ move. nat_lt 0 (length (allowing question (history ++ move ∷ []))))
      every_move in
      ap (λ (b : Bool). if b then [] else kept) going

  -- the moves to those nodes that hold a class layout are its class moves
  pub held_moves : (index : ℕ) → IsValid question → Contains (allowing question history) index
      → class_decided (class_after question history) ≡ false
      → filter (λ move. is_held index (allowing question (history ++ move ∷ []))) (moves_on question history)
      ≡ class_moves (class_after question history) (counts_in index)
  held_moves index valid held going =
      let moves : List ClassMove = class_moves (class_after question history) (counts_in index) in
      let kept : ClassMove → Indices = λ move. allowing question (history ++ move ∷ []) in
      let some : ClassMove → Bool = λ move. nat_lt 0 (length (kept move)) in
      let holds : ClassMove → Bool = λ move. is_held index (kept move) in
      ap (filter holds) (going_on going)
      ∙ filter-filter some holds every_move
      ∙ filter_agree (λ move. some move && holds move) holds
      (λ move. both_second (some move) (holds move)
      (λ told. some_held (kept move) index ((held_decides index (kept move)).0 told))) every_move
      ∙ filter_agree holds (is_among moves) (λ move. held_is move index valid held) every_move
      ∙ sym (class_moves_listed (class_after question history) (counts_in index))
