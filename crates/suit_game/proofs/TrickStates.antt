-- Who may still win the trick in progress, and which hands are empty by its end.
use Rattle.std.proofs.Common.{◌≡◌, ℕ, zero, suc, ◌<◌, ◌≤◌, Bool, true, false, nat_eq, List, [], ◌∷◌, length, refl, sym}
use Rattle.std.proofs.Common.{◌∙◌, subst, ◌⊎◌, inl, inr, arith}
use Rattle.std.proofs.lemmas.Bool.{true≢false, false≢true, cases_Bool, or_cases, or_from, ne_eqb}
use Rattle.suit_cards.specs.declared.seats.Seat.{Seat}
use Rattle.suit_cards.specs.declared.seats.Seat.TheVariants.{N, E, S, W}
use Rattle.suit_cards.specs.Seats.{clockwise}
use Rattle.suit_cards.specs.Holdings.{holds}
use Rattle.suit_game.specs.declared.question.Question.{Question}
use Rattle.suit_game.specs.Positions.{without, dealt}
use Rattle.suit_game.specs.Strategies.{same_seat}
use Rattle.suit_game.specs.Gains.{is_declarer}
use Rattle.suit_game.specs.Reached.{is_to_play}
use Rattle.suit_game.proofs.WhatAHandHolds.{holds-from_without, holds-without, without-more, without-played}
use Rattle.suit_game.proofs.MovesByTheHand.{IsPlayable}

pub same_seat_is : (seat other : Seat) → same_seat seat other ≡ true → seat ≡ other
same_seat_is N N same = refl
same_seat_is E E same = refl
same_seat_is S S same = refl
same_seat_is W W same = refl
same_seat_is _ _ same = absurd (false≢true same)

-- the tricks that declarer has after a seat wins the only one
abbrev pub tally : Seat → ℕ
tally N = 1
tally E = 0
tally S = 1
tally W = 0

-- whether a seat is among the next so many after another
abbrev pub comes : Seat → ℕ → Seat → Bool
comes turn zero seat = false
comes turn (suc more) seat = is_to_play (clockwise turn) more seat

-- a seat alone has the ace and must play it, and may win
pub record HasAce (firsts : Bool) (Fine : ℕ → Type 0) (question : Question) (west : List ℕ) (seat : Seat) : Type 0 where
  pub fine : Fine (tally seat)
  pub has : holds (dealt question west seat) 14 ≡ true
  pub only : (other : Seat) → same_seat other seat ≡ false → holds (dealt question west other) 14 ≡ false
  pub forced : (gone : List ℕ) (card : ℕ) → holds gone 14 ≡ false
      → IsPlayable firsts (is_declarer seat) (without (dealt question west seat) gone) card → card ≡ 14

-- after a seat has played: any seat may win, or the winner so far has the ace, or a seat that comes later will play it
pub data Stand (firsts : Bool) (Fine : ℕ → Type 0) (question : Question) (west : List ℕ)
    (turn : Seat) (more : ℕ) (gone : List ℕ) (winner : Seat) (highest : ℕ) : Type 0 where
  Free : (each : (seat : Seat) → Fine (tally seat)) → Stand firsts Fine question west turn more gone winner highest
  Taken : (fine : Fine (tally winner)) (high : 14 ≤ highest)
      → Stand firsts Fine question west turn more gone winner highest
  Waiting : (seat : Seat) (ace : HasAce firsts Fine question west seat) (low : highest < 14)
      (kept : holds gone 14 ≡ false) (later : comes turn more seat ≡ true)
      → Stand firsts Fine question west turn more gone winner highest

-- after the last seat
pub Stand-last : (firsts : Bool) (Fine : ℕ
    → Type 0) (question : Question) (west : List ℕ) (turn : Seat) (gone : List ℕ) (winner : Seat) (highest : ℕ)
    → Stand firsts Fine question west turn zero gone winner highest → Fine (tally winner)
Stand-last firsts Fine question west turn gone winner highest (Free each) = each winner
Stand-last firsts Fine question west turn gone winner highest (Taken fine high) = fine
Stand-last firsts Fine question west turn gone winner highest (Waiting seat ace low kept later) =
    absurd (false≢true later)

coming_else : (turn : Seat) (more : ℕ) (seat : Seat) → same_seat (clockwise turn) seat ≡ false
    → comes turn (suc more) seat ≡ true
    → comes (clockwise turn) more seat ≡ true
coming_else turn zero seat other later = absurd (false≢true (sym other ∙ later))
coming_else turn (suc more) seat other later =
    elim (or_cases (same_seat (clockwise turn) seat) (is_to_play (clockwise (clockwise turn)) more seat) later) [
      | inl same ↦ absurd (false≢true (sym other ∙ same))
      | inr rest ↦ rest
    ]

-- after the next seat has shown out
pub Stand-out : (firsts : Bool) (Fine : ℕ → Type 0) (question : Question) (west : List ℕ)
    (turn : Seat) (more : ℕ) (gone : List ℕ) (winner : Seat) (highest : ℕ)
    → without (dealt question west (clockwise turn)) gone ≡ []
    → Stand firsts Fine question west turn (suc more) gone winner highest
    → Stand firsts Fine question west (clockwise turn) more gone winner highest
Stand-out firsts Fine question west turn more gone winner highest none (Free each) = Free each
Stand-out firsts Fine question west turn more gone winner highest none (Taken fine high) = Taken fine high
Stand-out firsts Fine question west turn more gone winner highest none (Waiting seat ace low kept later) =
    elim (cases_Bool (same_seat (clockwise turn) seat)) [
      | inl same ↦
          let empty : without (dealt question west seat) gone ≡ [] =
          subst (λ (it : Seat). without (dealt question west it) gone ≡ []) (same_seat_is (clockwise turn) seat same)
          none in
          absurd (false≢true (subst (λ (cards : List ℕ). holds cards 14
          ≡ true) empty (holds-without (dealt question west seat) gone 14 ace.has kept)))
      | inr other ↦ Waiting seat ace low kept (coming_else turn more seat other later)
    ]

-- the ace stays where another card goes
pub not_gone : (gone : List ℕ) (card : ℕ) → (card ≡ 14 → ⊥) → holds gone 14 ≡ false → holds (card ∷ gone) 14 ≡ false
not_gone gone card differs kept = or_from (nat_eq 14 card) (holds gone 14) (ne_eqb 14 card (λ e. differs (sym e))) kept

-- a card of a hand without the ace is not the ace
pub not_the_ace : (cards : List ℕ) (card : ℕ) → holds cards card ≡ true → holds cards 14 ≡ false → card ≡ 14 → ⊥
not_the_ace cards card held none same = true≢false (sym (subst (λ (x : ℕ). holds cards x ≡ true) same held) ∙ none)

not_ace : (firsts : Bool) (Fine : ℕ
    → Type 0) (question : Question) (west : List ℕ) (seat other : Seat) (gone : List ℕ) (card : ℕ)
    → HasAce firsts Fine question west seat → same_seat other seat ≡ false
    → holds (without (dealt question west other) gone) card ≡ true → card ≡ 14 → ⊥
not_ace firsts Fine question west seat other gone card ace differs held =
    not_the_ace (dealt question west other) card (holds-from_without (dealt question west other) gone card held).0
    (ace.only other differs)

forced_by : (firsts : Bool) (Fine : ℕ
    → Type 0) (question : Question) (west : List ℕ) (seat other : Seat) (gone : List ℕ) (card : ℕ)
    → HasAce firsts Fine question west seat → same_seat other seat ≡ true → holds gone 14 ≡ false
    → IsPlayable firsts (is_declarer other) (without (dealt question west other) gone) card → card ≡ 14
forced_by firsts Fine question west seat other gone card ace same kept plays =
    ace.forced gone card kept
    (subst (λ (it : Seat). IsPlayable firsts (is_declarer it) (without (dealt question west it) gone) card)
    (same_seat_is other seat same) plays)

-- after the next seat has played a higher card
pub Stand-higher : (firsts : Bool) (Fine : ℕ → Type 0) (question : Question) (west : List ℕ)
    (turn : Seat) (more : ℕ) (gone : List ℕ) (winner : Seat) (highest card : ℕ)
    → IsPlayable firsts (is_declarer (clockwise turn)) (without (dealt question west (clockwise turn)) gone) card
    → card < 15 → highest < card
    → Stand firsts Fine question west turn (suc more) gone winner highest
    → Stand firsts Fine question west (clockwise turn) more (card ∷ gone) (clockwise turn) card
Stand-higher firsts Fine question west turn more gone winner highest card plays top up (Free each) = Free each
Stand-higher firsts Fine question west turn more gone winner highest card plays top up (Taken fine high) =
    absurd (omega arith)
Stand-higher firsts Fine question west turn more gone winner highest card plays top up
    (Waiting seat ace low kept later) =
    elim (cases_Bool (same_seat (clockwise turn) seat)) [
      | inl same ↦
          let is_ace : card ≡ 14 = forced_by firsts Fine question west seat (clockwise turn) gone card ace same kept
          plays in
          Taken (subst (λ (it : Seat). Fine (tally it)) (sym (same_seat_is (clockwise turn) seat same)) ace.fine)
          (omega arith)
      | inr other ↦
          let differs : card ≡ 14 → ⊥ =
          not_ace firsts Fine question west seat (clockwise turn) gone card ace other plays.0 in
          Waiting seat ace (omega (arith, differs)) (not_gone gone card differs kept)
          (coming_else turn more seat other later)
    ]

-- after the next seat has played a card that is not higher
pub Stand-lower : (firsts : Bool) (Fine : ℕ → Type 0) (question : Question) (west : List ℕ)
    (turn : Seat) (more : ℕ) (gone : List ℕ) (winner : Seat) (highest card : ℕ)
    → IsPlayable firsts (is_declarer (clockwise turn)) (without (dealt question west (clockwise turn)) gone) card
    → card ≤ highest
    → Stand firsts Fine question west turn (suc more) gone winner highest
    → Stand firsts Fine question west (clockwise turn) more (card ∷ gone) winner highest
Stand-lower firsts Fine question west turn more gone winner highest card plays down (Free each) = Free each
Stand-lower firsts Fine question west turn more gone winner highest card plays down (Taken fine high) = Taken fine high
Stand-lower firsts Fine question west turn more gone winner highest card plays down (Waiting seat ace low kept later) =
    elim (cases_Bool (same_seat (clockwise turn) seat)) [
      | inl same ↦
          let is_ace : card ≡ 14 = forced_by firsts Fine question west seat (clockwise turn) gone card ace same kept
          plays in
          absurd (omega arith)
      | inr other ↦
          let differs : card ≡ 14 → ⊥ =
          not_ace firsts Fine question west seat (clockwise turn) gone card ace other plays.0 in
          Waiting seat ace low (not_gone gone card differs kept) (coming_else turn more seat other later)
    ]

-- a seat has still to play, or has nothing left
abbrev pub IsSpent : Question → List ℕ → Seat → ℕ → List ℕ → Seat → Type 0
IsSpent question west turn more gone seat = (comes turn more seat ≡ true)
    ⊎ (without (dealt question west seat) gone ≡ [])

pub IsSpent-last : (question : Question) (west : List ℕ) (turn : Seat) (gone : List ℕ) (seat : Seat)
    → IsSpent question west turn zero gone seat → without (dealt question west seat) gone ≡ []
IsSpent-last question west turn gone seat (inl later) = absurd (false≢true later)
IsSpent-last question west turn gone seat (inr none) = none

pub IsSpent-out : (question : Question) (west : List ℕ) (turn : Seat) (more : ℕ) (gone : List ℕ) (seat : Seat)
    → without (dealt question west (clockwise turn)) gone ≡ []
    → IsSpent question west turn (suc more) gone seat → IsSpent question west (clockwise turn) more gone seat
IsSpent-out question west turn more gone seat none (inl later) =
    elim (cases_Bool (same_seat (clockwise turn) seat)) [
      | inl same ↦ inr (subst (λ (it : Seat). without (dealt question west it) gone
          ≡ []) (same_seat_is (clockwise turn) seat same) none)
      | inr other ↦ inl (coming_else turn more seat other later)
    ]
IsSpent-out question west turn more gone seat none (inr empty) = inr empty

pub IsSpent-played : (question : Question) (west : List ℕ) (turn : Seat) (more : ℕ) (gone : List ℕ) (seat : Seat)
    (card : ℕ)
    → length (dealt question west seat) ≤ 1 → holds (without (dealt question west (clockwise turn)) gone) card ≡ true
    → IsSpent question west turn (suc more) gone seat → IsSpent question west (clockwise turn) more (card ∷ gone) seat
IsSpent-played question west turn more gone seat card short held (inl later) =
    elim (cases_Bool (same_seat (clockwise turn) seat)) [
      | inl same ↦
          let here : holds (without (dealt question west seat) gone) card ≡ true =
          subst (λ (it : Seat). holds (without (dealt question west it) gone) card
          ≡ true) (same_seat_is (clockwise turn) seat same) held in
          inr (without-played (dealt question west seat) gone card short
          (holds-from_without (dealt question west seat) gone card here).0)
      | inr other ↦ inl (coming_else turn more seat other later)
    ]
IsSpent-played question west turn more gone seat card short held (inr empty) =
    inr (without-more (dealt question west seat) gone card empty)
