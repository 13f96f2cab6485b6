-- Each legal move leaves less room for further ones.
use Rattle.std.proofs.Common.{◌≡◌, ℕ, zero, suc, ◌+◌, ◌*◌, ◌<◌, ◌≤◌, Bool, true, false, List, ◌∷◌, refl, subst, inl}
use Rattle.std.proofs.Common.{inr, arith}
use Rattle.std.specs.Prelude.{Contains, nat_lt, if◌then◌else◌}
use Rattle.suit_cards.specs.declared.seats.Seat.{Seat}
use Rattle.suit_cards.specs.declared.seats.Seat.TheVariants.{N, E, S, W}
use Rattle.suit_game.specs.declared.question.Question.{Question}
use Rattle.suit_game.specs.declared.moves.Move.{Move}
use Rattle.suit_game.specs.Positions.{Position, Trick, Closed, Open, legal_in, legal_at, step_in, step, led, followed}
use Rattle.suit_game.specs.Positions.{turn_passed, declarer_hand}
use Rattle.suit_game.specs.Lengths.{cards_left, seats_left, room}
use Rattle.suit_game.proofs.LegalPlays.{lead_cases, follow_or_show}
use Rattle.suit_game.proofs.WhatAHandHolds.{length-without_more, length-without_less}

-- passing a trick on takes one seat from those left
room_passed : (question : Question) (place : Position) (turn : Seat) (after : ℕ) (winner : Seat) (highest : ℕ)
    → room question (turn_passed question place turn after winner highest) ≡ 4 * cards_left question place + after
room_passed question place turn zero N highest = refl
room_passed question place turn zero E highest = refl
room_passed question place turn zero S highest = refl
room_passed question place turn zero W highest = refl
room_passed question place turn (suc after) winner highest = refl

room_either : (question : Question) (place : Position) (turn : Seat) (after : ℕ) (winner : Seat) (highest card : ℕ)
    (beaten : Bool)
    → room question (if beaten then turn_passed question place turn after turn card
    else turn_passed question place turn after winner highest)
    ≡ 4 * cards_left question place + after
room_either question place turn after winner highest card true = room_passed question place turn after turn card
room_either question place turn after winner highest card false = room_passed question place turn after winner highest

-- the cards left do not grow as a card goes
cards_left_more : (question : Question) (place : Position) (card : ℕ)
    → cards_left question (record place { gone = card ∷ place.gone }) ≤ cards_left question place
cards_left_more question place card =
    omega (
      arith,
      length-without_more question.north place.gone card,
      length-without_more question.south place.gone card,
    )

room_follows : (question : Question) (place : Position) (turn : Seat) (after : ℕ) (winner : Seat) (highest card : ℕ)
    → room question (followed question place turn after winner highest card) < 4 * cards_left question place + suc after
room_follows question place turn after winner highest card =
    omega (
      arith,
      room_either question (record place { gone = card ∷ place.gone }) turn after winner highest card
          (nat_lt highest card),
      cards_left_more question place card,
    )

room_leads_n : (question : Question) (place : Position) (card : ℕ) → Contains (declarer_hand question place N) card
    → room question (led place N card) < 4 * cards_left question place + 0
room_leads_n question place card held =
    omega (
      arith,
      length-without_less question.north place.gone card held,
      length-without_more question.south place.gone card,
    )

room_leads_s : (question : Question) (place : Position) (card : ℕ) → Contains (declarer_hand question place S) card
    → room question (led place S card) < 4 * cards_left question place + 0
room_leads_s question place card held =
    omega (
      arith,
      length-without_more question.north place.gone card,
      length-without_less question.south place.gone card held,
    )

-- a legal move leaves less room, whatever the trick in progress is
room_in : (question : Question) (west : List ℕ) (place : Position) (trick : Trick) (move : Move)
    → Contains (legal_in question west place trick) move
    → room question (step_in question place trick move) < 4 * cards_left question place + seats_left trick
unfolding legal_in step_in
room_in question west place Closed move found = elim (lead_cases question place move found) [
  | inl north ↦ subst (λ (m : Move). room question (step_in question place Closed m)
      < 4 * cards_left question place + 0) north.2
      (room_leads_n question place north.0 north.1)
  | inr south ↦ subst (λ (m : Move). room question (step_in question place Closed m)
      < 4 * cards_left question place + 0) south.2
      (room_leads_s question place south.0 south.1)
]
room_in question west place (Open turn after winner highest) move found = elim (follow_or_show _ move found) [
  | inl card ↦ subst (λ (m : Move). room question (step_in question place (Open turn after winner highest) m)
      < 4 * cards_left question place + suc after) card.2
      (room_follows question place turn after winner highest card.0)
  | inr none ↦ subst (λ (m : Move). room question (step_in question place (Open turn after winner highest) m)
      < 4 * cards_left question place + suc after) none.1
      (omega (arith, room_passed question place turn after winner highest))
]

pub room_falls : (question : Question) (west : List ℕ) (place : Position) (move : Move)
    → Contains (legal_at question west place) move
    → room question (step question place move) < room question place
room_falls question west place move found = room_in question west place place.trick move found
