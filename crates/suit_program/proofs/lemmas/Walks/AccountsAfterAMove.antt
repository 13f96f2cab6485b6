-- The accounts after a move of the defence, answer by answer (`answered_more`, `answered_past`), and the places of
-- moves.
use Rattle.std.proofs.Common.{◌≡◌, ℕ, zero, suc, ◌+◌, ◌<◌, ◌≤◌, Bool, true, false, cond, List, [], ◌∷◌, ◌++◌, length}
use Rattle.std.proofs.Common.{get_or}
use Rattle.std.proofs.Common.{map, take, drop, refl, sym, ap, ◌∙◌, subst, append-nil, drop-cons, zero-add, arith}
use Rattle.std.specs.Prelude.{Contains, filter, if◌then◌else◌}
use Rattle.std.proofs.lemmas.List.{map-append, take_more}
use Rattle.std.proofs.lemmas.List.Elements.{Contains-get_or, filter-append}
use Rattle.suit_lists.proofs.Filters.{Contains-filter}
use Rattle.suit_lists.proofs.Maps.{Contains-map}
use Rattle.suit_classes.specs.declared.class_moves.ClassMove.{ClassMove}
use Rattle.suit_classes.specs.WhatIsAllowed.{is_among}
use Rattle.suit_classes.specs.ClassMoves.{same_class_move}
use Rattle.suit_program.specs.declared.walks.ledger.Account.{Account}
use Rattle.suit_program.specs.declared.walks.turn.LayoutMoves.{LayoutMoves}
use Rattle.suit_program.specs.Walks.Writing.{AnswerView, advanced, answer_seen, answered_by, place_in}

module _ (move : ClassMove) where
  abbrev pub so_far : List LayoutMoves → List Account
  so_far answers = answered_by (map answer_seen answers) move

  goes : AnswerView → Bool
  goes answer = is_among answer.1 move

  one_more : (answers : List LayoutMoves) (answer : LayoutMoves)
      → so_far (answers ++ answer ∷ [])
      ≡ so_far answers
      ++ map (advanced move) (cond (is_among answer.moves.items move) (answer_seen answer ∷ []) [])
  one_more answers answer =
      let seen : List AnswerView = map answer_seen answers in
      ap (λ (l : List AnswerView). answered_by l move) (map-append answer_seen answers (answer ∷ []))
      ∙ ap (map (advanced move))
      (filter-append (λ (other : AnswerView). is_among other.1 move) seen (answer_seen answer ∷ []))
      ∙ map-append (advanced move) (filter (λ (other : AnswerView). is_among other.1 move) seen)
      (cond (is_among answer.moves.items move) (answer_seen answer ∷ []) [])

  pub answered_more : (answers : List LayoutMoves) (index : ℕ) (answer : LayoutMoves) → index < length answers
      → answer ≡ get_or answers index answer → is_among answer.moves.items move ≡ true
      → so_far (take (index + 1) answers) ≡ so_far (take index answers) ++ advanced move (answer_seen answer) ∷ []
  answered_more answers index answer below is among =
      ap so_far (take_more answers index answer below
      ∙ ap (λ (a : LayoutMoves). take index answers ++ a ∷ []) (sym is))
      ∙ one_more (take index answers) answer
      ∙ ap (λ (b : Bool). so_far (take index answers) ++ map (advanced move) (cond b (answer_seen answer ∷ []) []))
      among

  pub answered_past : (answers : List LayoutMoves) (index : ℕ) (answer : LayoutMoves) → index < length answers
      → answer ≡ get_or answers index answer → is_among answer.moves.items move ≡ false
      → so_far (take (index + 1) answers) ≡ so_far (take index answers)
  answered_past answers index answer below is not =
      ap so_far (take_more answers index answer below
      ∙ ap (λ (a : LayoutMoves). take index answers ++ a ∷ []) (sym is))
      ∙ one_more (take index answers) answer
      ∙ ap (λ (b : Bool). so_far (take index answers) ++ map (advanced move) (cond b (answer_seen answer ∷ []) [])) not
      ∙ append-nil (so_far (take index answers))

  pub answered_found : (answers : List LayoutMoves) (index : ℕ) (answer : LayoutMoves) → index < length answers
      → answer ≡ get_or answers index answer → is_among answer.moves.items move ≡ true
      → Contains (so_far answers) (advanced move (answer_seen answer))
  answered_found answers index answer below is among =
      Contains-map (advanced move)
      (filter (λ (other : AnswerView). is_among other.1 move) (map answer_seen answers)) (answer_seen answer)
      (Contains-filter (λ (other : AnswerView). is_among other.1 move) (map answer_seen answers) (answer_seen answer)
      (Contains-map answer_seen answers answer
      (subst (Contains answers) (sym is) (Contains-get_or answers index answer below))) among)

  -- ---- places

  pub place_here : (moves : List ClassMove) (index : ℕ) (none : ClassMove) → index < length moves
      → same_class_move (get_or moves index none) move ≡ true
      → place_in moves move ≡ index + place_in (drop index moves) move → place_in moves move ≡ index
  unfolding place_in
  place_here moves index none below same is =
      is ∙ ap (λ (l : List ClassMove). index + place_in l move) (drop-cons moves index none below)
      ∙ ap (λ (b : Bool). index + (if b then 0 else suc (place_in (drop (suc index) moves) move))) same
      ∙ end index
    where
      end : (n : ℕ) → n + 0 ≡ n
      end n = omega arith

  pub place_past : (moves : List ClassMove) (index : ℕ) (none : ClassMove) → index < length moves
      → same_class_move (get_or moves index none) move ≡ false
      → place_in moves move ≡ index + place_in (drop index moves) move
      → place_in moves move ≡ (index + 1) + place_in (drop (index + 1) moves) move
  unfolding place_in
  place_past moves index none below not is =
      is ∙ ap (λ (l : List ClassMove). index + place_in l move) (drop-cons moves index none below)
      ∙ ap (λ (b : Bool). index + (if b then 0 else suc (place_in (drop (suc index) moves) move))) not
      ∙ ap (λ (n : ℕ). index + suc (place_in (drop n moves) move)) next
      ∙ shift index (place_in (drop (index + 1) moves) move)
    where
      next : suc index ≡ index + 1
      next = omega arith

      shift : (n p : ℕ) → n + suc p ≡ (n + 1) + p
      shift n p = omega arith

  pub place_start : (moves : List ClassMove) → place_in moves move ≡ 0 + place_in (drop 0 moves) move
  place_start moves = sym (zero-add (place_in moves move))

  place_out : (moves : List ClassMove) (index : ℕ) → length moves ≤ index → place_in (drop index moves) move ≡ 0
  unfolding place_in
  place_out [] zero past = refl
  place_out [] (suc index) past = refl
  place_out (first ∷ moves) zero past = absurd (omega (arith, past))
  place_out (first ∷ moves) (suc index) past = place_out moves index (omega (arith, past))

  pub place_end : (moves : List ClassMove) (index : ℕ) → length moves ≤ index → index ≤ length moves
      → place_in moves move ≡ index + place_in (drop index moves) move → place_in moves move ≡ length moves
  place_end moves index past within is = let none = place_out moves index past in omega (arith, is, none, past, within)
