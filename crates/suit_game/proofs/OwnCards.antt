-- Each hand plays its own cards, and the other hands keep theirs.
use Rattle.std.proofs.Common.{◌≡◌, ℕ, ◌-◌, ◌⊎◌, true, List, [], ◌∷◌, length, ap, ◌∙◌, inl, inr, arith}
use Rattle.std.specs.Prelude.{Contains}
use Rattle.std.proofs.lemmas.Bool.{false_from_ne_true}
use Rattle.suit_cards.specs.declared.seats.Seat.{Seat}
use Rattle.suit_cards.specs.declared.seats.Seat.TheVariants.{N, E, S, W}
use Rattle.suit_cards.specs.Holdings.{IsHolding, holds}
use Rattle.suit_cards.proofs.WhetherARankIsHeld.{holds_tells}
use Rattle.suit_game.specs.declared.question.Question.{Question}
use Rattle.suit_game.specs.Deals.{IsDeal}
use Rattle.suit_game.specs.Positions.{without, dealt}
use Rattle.suit_game.specs.Question.{missing}
use Rattle.suit_game.proofs.WhatAHandHolds.{holds-from_without, without_away, length-without_one}
use Rattle.suit_game.proofs.LayoutCards.{missing-apart, east-missing}
use Rattle.suit_game.proofs.LongestPlay.{none_shared}

-- a hand has played a card that it had, or had none and has shown out
abbrev pub PlaysOwn : (cards gone later : List ℕ) → Type 0
PlaysOwn cards gone later =
    ((card : ℕ) × Contains (without cards gone) card × (later ≡ card ∷ gone))
    ⊎ ((without cards gone ≡ []) × (later ≡ gone))

-- the hand that plays has one card fewer, or still none
one_fewer : (cards gone later : List ℕ) → IsHolding cards → PlaysOwn cards gone later
    → length (without cards later) ≡ length (without cards gone) - 1
one_fewer cards gone later holding plays = elim plays [
  | inl card ↦
      let left = length-without_one 15 cards gone card.0 holding ((holds_tells (without cards gone) card.0).1 card.1) in
      omega (arith, left, ap (λ (l : List ℕ). length (without cards l)) card.2)
  | inr none ↦ omega (arith, ap length none.0, ap (λ (l : List ℕ). length (without cards l)) none.1)
]

kept_cards : (cards other gone later : List ℕ) → ((card : ℕ) → holds other card ≡ true → holds cards card ≡ true → ⊥)
    → PlaysOwn other gone later
    → length (without cards later) ≡ length (without cards gone)
kept_cards cards other gone later apart plays = elim plays [
  | inl card ↦
      let held = holds-from_without other gone card.0 ((holds_tells (without other gone) card.0).1 card.1) in
      ap (λ (l : List ℕ). length (without cards l)) card.2
      ∙ ap length (without_away cards gone card.0 (false_from_ne_true (holds cards card.0) (apart card.0 held.0)))
  | inr none ↦ ap (λ (l : List ℕ). length (without cards l)) none.1
]

-- a hand that shares no card with the one that plays keeps its cards
none_fewer : (cards other gone later : List ℕ) → ((card : ℕ) → holds other card ≡ true → holds cards card ≡ true → ⊥)
    → PlaysOwn other gone later
    → length (without cards later) ≡ length (without cards gone) - 0
none_fewer cards other gone later apart plays = omega (arith, kept_cards cards other gone later apart plays)

-- how many cards North loses as a seat plays, where it has one, and how many South
abbrev pub taken_n : Seat → ℕ
taken_n N = 1
taken_n E = 0
taken_n S = 0
taken_n W = 0

abbrev pub taken_s : Seat → ℕ
taken_s N = 0
taken_s E = 0
taken_s S = 1
taken_s W = 0

-- as a seat plays, North has a card fewer where it was North
pub left_n : (question : Question) (west gone later : List ℕ) (seat : Seat) → IsDeal question west
    → PlaysOwn (dealt question west seat) gone later
    → length (without question.north later) ≡ length (without question.north gone) - taken_n seat
left_n question west gone later N deal plays = one_fewer question.north gone later deal.north plays
left_n question west gone later E deal plays =
    none_fewer question.north (without (missing question) west) gone later
    (λ card held. (missing-apart question card (east-missing question west card held)).0) plays
left_n question west gone later S deal plays =
    none_fewer question.north question.south gone later
    (λ card in_south in_north. none_shared question.north question.south deal.apart card in_north in_south) plays
left_n question west gone later W deal plays =
    none_fewer question.north west gone later (λ card held. (missing-apart question card (deal.defenders card held)).0)
    plays

-- as a seat plays, South has a card fewer where it was South
pub left_s : (question : Question) (west gone later : List ℕ) (seat : Seat) → IsDeal question west
    → PlaysOwn (dealt question west seat) gone later
    → length (without question.south later) ≡ length (without question.south gone) - taken_s seat
left_s question west gone later N deal plays =
    none_fewer question.south question.north gone later (none_shared question.north question.south deal.apart) plays
left_s question west gone later E deal plays =
    none_fewer question.south (without (missing question) west) gone later
    (λ card held. (missing-apart question card (east-missing question west card held)).1) plays
left_s question west gone later S deal plays = one_fewer question.south gone later deal.south plays
left_s question west gone later W deal plays =
    none_fewer question.south west gone later (λ card held. (missing-apart question card (deal.defenders card held)).1)
    plays
