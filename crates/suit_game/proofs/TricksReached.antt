-- The trick in progress makes sense at each position that legal play comes to.
use Rattle.std.proofs.Common.{◌≡◌, ℕ, zero, suc, ◌≤◌, Bool, true, false, List, [], ◌∷◌, refl, sym, subst, inl, inr}
use Rattle.std.proofs.Common.{arith}
use Rattle.std.specs.Prelude.{◌==◌, Contains, nat_lt, if◌then◌else◌}
use Rattle.std.specs.List.{IsDistinct, AllByRecursion}
use Rattle.std.proofs.lemmas.Bool.{or_parts}
use Rattle.std.proofs.lemmas.Map.Keys.{IsDistinct-cons}
use Rattle.suit_cards.specs.declared.seats.Seat.{Seat}
use Rattle.suit_cards.specs.declared.seats.Seat.TheVariants.{N, E, S, W}
use Rattle.suit_cards.specs.Seats.{clockwise}
use Rattle.suit_cards.specs.Holdings.{holds}
use Rattle.suit_cards.proofs.WhetherARankIsHeld.{holds_tells}
use Rattle.suit_game.specs.declared.question.Question.{Question}
use Rattle.suit_game.specs.declared.moves.Move.{Move}
use Rattle.suit_game.specs.Gains.{is_declarer}
use Rattle.suit_game.specs.Positions.{Position, Trick, Closed, Open, without, dealt, hand, legal_in, legal_at, step_in}
use Rattle.suit_game.specs.Positions.{step, turn_passed, ended_trick}
use Rattle.suit_game.specs.Reached.{is_to_play, IsOpen, IsTrickAt}
use Rattle.suit_game.specs.Strategies.{same_seat}
use Rattle.suit_game.proofs.WhatAHandHolds.{holds-from_without}
use Rattle.suit_game.proofs.OwnCards.{PlaysOwn}
use Rattle.suit_game.proofs.LegalPlays.{lead_cases, follow_or_show}
use Rattle.suit_game.proofs.TrickStates.{comes}
use Rattle.suit_game.proofs.TurnsTaken.{follow_plays_own, lead_opens}
use Rattle.suit_lists.proofs.Elements.{Contains-cons_cases, Contains-first, Contains-later, Contains-same}

-- a card that is left of a hand was dealt to it
dealt_from_hand : (cards gone : List ℕ) (card : ℕ) → Contains (without cards gone) card → Contains cards card
dealt_from_hand cards gone card found =
    (holds_tells cards card).0 (holds-from_without cards gone card ((holds_tells (without cards gone) card).1 found)).0

-- each legal move is by some seat, of its own cards
pub own_at : (question : Question) (west : List ℕ) (place : Position) (trick : Trick) (move : Move)
    → place.trick ≡ trick
    → Contains (legal_at question west place) move
    → (seat : Seat) × PlaysOwn (dealt question west seat) place.gone (step question place move).gone
own_at question west place Closed move is legal = elim (lead_opens question west place move is legal) [
  | inl north ↦ (N, north.0)
  | inr south ↦ (S, south.0)
]
own_at question west place (Open turn after winner highest) move is legal =
    (turn, follow_plays_own question west place turn after winner highest move is legal)

all_apart : (card : ℕ) (gone : List ℕ) → holds gone card ≡ false → AllByRecursion (λ (y : ℕ). (card == y) ≡ false) gone
all_apart card [] away = tt
all_apart card (x ∷ gone) away =
    let parts = or_parts (card == x) (holds gone card) away in
    (parts.0, all_apart card gone parts.1)

-- no card goes twice
pub once_later : (cards gone later : List ℕ) → IsDistinct (◌==◌) gone → PlaysOwn cards gone later
    → IsDistinct (◌==◌) later
once_later cards gone later distinct plays = elim plays [
  | inl card ↦
      subst (λ (l : List ℕ). IsDistinct (◌==◌) l) (sym card.2)
      (IsDistinct-cons (◌==◌) card.0 gone
      (all_apart card.0 gone (holds-from_without cards gone card.0
      ((holds_tells (without cards gone) card.0).1 card.1)).1) distinct)
  | inr none ↦ subst (λ (l : List ℕ). IsDistinct (◌==◌) l) (sym none.1) distinct
]

-- each card that goes was dealt to a seat
pub from_hands_later : (question : Question) (west gone later : List ℕ) (seat : Seat)
    → ((card : ℕ) → Contains gone card → (seat : Seat) × Contains (dealt question west seat) card)
    → PlaysOwn (dealt question west seat) gone later
    → (card : ℕ) → Contains later card → (seat : Seat) × Contains (dealt question west seat) card
from_hands_later question west gone later seat before plays other found = elim plays [
  | inl card ↦ elim (Contains-cons_cases card.0 gone other (Contains-same other card.2 found)) [
    | inl here ↦ (
      seat,
      subst (λ (c : ℕ). Contains (dealt question west seat) c) here
          (dealt_from_hand (dealt question west seat) gone card.0 card.1),
    )
    | inr there ↦ before other there
  ]
  | inr none ↦ before other (Contains-same other none.1 found)
]

-- a seat that is no longer to play is not among the seats after the one on turn
done_before : (turn : Seat) (after : ℕ) (seat : Seat) → is_to_play turn after seat ≡ false
    → comes turn after seat ≡ false
done_before turn zero seat played = refl
done_before turn (suc after) seat played =
    (or_parts (same_seat turn seat) (is_to_play (clockwise turn) after seat) played).1

-- nor is the one on turn
done_now : (turn : Seat) (after : ℕ) → after ≤ 2 → comes turn after turn ≡ false
done_now turn zero most = refl
done_now N (suc zero) most = refl
done_now E (suc zero) most = refl
done_now S (suc zero) most = refl
done_now W (suc zero) most = refl
done_now N (suc (suc zero)) most = refl
done_now E (suc (suc zero)) most = refl
done_now S (suc (suc zero)) most = refl
done_now W (suc (suc zero)) most = refl
done_now turn (suc (suc (suc after))) most = absurd (omega arith)

sides_later : (turn : Seat) (after : ℕ) → suc after ≤ 2 → is_declarer turn ≡ (suc after == 1)
    → is_declarer (clockwise turn) ≡ (after == 1)
sides_later N zero most sides = refl
sides_later S zero most sides = refl
sides_later E zero most sides = absurd (cc)
sides_later W zero most sides = absurd (cc)
sides_later N (suc zero) most sides = absurd (cc)
sides_later S (suc zero) most sides = absurd (cc)
sides_later E (suc zero) most sides = refl
sides_later W (suc zero) most sides = refl
sides_later turn (suc (suc after)) most sides = absurd (omega arith)

trick_ended : (question : Question) (west : List ℕ) (place : Position) (winner : Seat)
    → IsTrickAt question west (ended_trick question place winner).gone (ended_trick question place winner).trick
trick_ended question west place N = tt
trick_ended question west place E = tt
trick_ended question west place S = tt
trick_ended question west place W = tt

trick_passed : (question : Question) (west : List ℕ) (place : Position) (turn : Seat) (after : ℕ) (winner : Seat)
    (highest : ℕ)
    → after ≤ 2 → is_declarer turn ≡ (after == 1) → Contains place.gone highest
    → Contains (dealt question west winner) highest → comes turn after winner ≡ false
    → IsTrickAt question west (turn_passed question place turn after winner highest).gone
    (turn_passed question place turn after winner highest).trick
trick_passed question west place turn zero winner highest most sides is_gone is_dealt done =
    trick_ended question west place winner
trick_passed question west place turn (suc after) winner highest most sides is_gone is_dealt done = record {
  after_most = omega arith;
  sides = sides_later turn after most sides;
  highest_gone = is_gone;
  highest_dealt = is_dealt;
  winner_played = done;
}

trick_either : (question : Question) (west : List ℕ) (place : Position) (turn : Seat) (after : ℕ) (winner : Seat)
    (highest card : ℕ) (beaten : Bool)
    → IsOpen question west place.gone turn after winner highest → Contains place.gone card
    → Contains (dealt question west turn) card
    → (let later : Position = (if beaten then turn_passed question place turn after turn card
    else turn_passed question place turn after winner highest) in
    IsTrickAt question west later.gone later.trick)
trick_either question west place turn after winner highest card true is is_gone is_dealt =
    trick_passed question west place turn after turn card is.after_most is.sides is_gone is_dealt
    (done_now turn after is.after_most)
trick_either question west place turn after winner highest card false is is_gone is_dealt =
    trick_passed question west place turn after winner highest is.after_most is.sides is.highest_gone is.highest_dealt
    (done_before turn after winner is.winner_played)

-- the same, where one more card is gone
open_more : (question : Question) (west gone : List ℕ) (turn : Seat) (after : ℕ) (winner : Seat) (highest card : ℕ)
    → IsOpen question west gone turn after winner highest → IsOpen question west (card ∷ gone) turn after winner highest
open_more question west gone turn after winner highest card is = record {
  after_most = is.after_most;
  sides = is.sides;
  highest_gone = Contains-later card gone highest is.highest_gone;
  highest_dealt = is.highest_dealt;
  winner_played = is.winner_played;
}

trick_in : (question : Question) (west : List ℕ) (place : Position) (trick : Trick) (move : Move)
    → IsTrickAt question west place.gone trick
    → Contains (legal_in question west place trick) move
    → IsTrickAt question west (step_in question place trick move).gone (step_in question place trick move).trick
unfolding legal_in step_in
trick_in question west place Closed move is found = elim (lead_cases question place move found) [
  | inl north ↦ subst (λ (m : Move). IsTrickAt question west (step_in question place Closed m).gone
      (step_in question place Closed m).trick) north.2
      (record {
        after_most = omega arith;
        sides = refl;
        highest_gone = Contains-first north.0 place.gone;
        highest_dealt = dealt_from_hand question.north place.gone north.0 north.1;
        winner_played = refl;
      })
  | inr south ↦ subst (λ (m : Move). IsTrickAt question west (step_in question place Closed m).gone
      (step_in question place Closed m).trick) south.2
      (record {
        after_most = omega arith;
        sides = refl;
        highest_gone = Contains-first south.0 place.gone;
        highest_dealt = dealt_from_hand question.south place.gone south.0 south.1;
        winner_played = refl;
      })
]
trick_in question west place (Open turn after winner highest) move is found =
    elim (follow_or_show (hand question west place turn) move found) [
      | inl card ↦ subst (λ (m : Move). IsTrickAt question west
          (step_in question place (Open turn after winner highest) m).gone
          (step_in question place (Open turn after winner highest) m).trick) card.2
          (trick_either question west (record place { gone = card.0 ∷ place.gone }) turn after winner highest card.0
          (nat_lt highest card.0)
          (open_more question west place.gone turn after winner highest card.0 is) (Contains-first card.0 place.gone)
          (dealt_from_hand (dealt question west turn) place.gone card.0 card.1))
      | inr none ↦ subst (λ (m : Move). IsTrickAt question west
          (step_in question place (Open turn after winner highest) m).gone
          (step_in question place (Open turn after winner highest) m).trick) none.1
          (trick_passed question west place turn after winner highest is.after_most is.sides is.highest_gone
          is.highest_dealt
          (done_before turn after winner is.winner_played))
    ]

-- a legal move leaves a trick that makes sense
pub trick_later : (question : Question) (west : List ℕ) (place : Position) (move : Move)
    → IsTrickAt question west place.gone place.trick
    → Contains (legal_at question west place) move
    → IsTrickAt question west (step question place move).gone (step question place move).trick
trick_later question west place move is found = trick_in question west place place.trick move is found
