-- What holds of each position that legal play comes to.
use Rattle.std.proofs.Common.{◌≡◌, ℕ, suc, ◌+◌, ◌*◌, ◌/◌, ◌%◌, ◌≤◌, max, List, [], ◌∷◌, length, refl, ap, ◌∙◌, subst}
use Rattle.std.proofs.Common.{arith}
use Rattle.std.specs.Prelude.{◌==◌, fold, Contains}
use Rattle.std.specs.List.{IsDistinct}
use Rattle.suit_cards.specs.declared.seats.Seat.{Seat}
use Rattle.suit_cards.specs.declared.seats.Seat.TheVariants.{N, S}
use Rattle.suit_game.specs.declared.question.Question.{Question}
use Rattle.suit_game.specs.declared.moves.Move.{Move}
use Rattle.suit_game.specs.Deals.{IsDeal}
use Rattle.suit_game.specs.Positions.{Position, Trick, Closed, Open, dealt, start_place, step, after, legal_at}
use Rattle.suit_game.specs.Positions.{LegalFrom, IsLegal}
use Rattle.suit_game.specs.Reached.{seats_played, held_at_trick, IsTrickAt, IsReached}
use Rattle.suit_game.proofs.WhatAHandHolds.{without-none}
use Rattle.suit_game.proofs.LongestPlay.{holdings_fit}
use Rattle.suit_game.proofs.MovesCounted.{Counted, tricks_later, counted_later, held_later}
use Rattle.suit_game.proofs.TricksReached.{own_at, once_later, from_hands_later, trick_later}
use Rattle.suit_game.specs.declared.limits.TheConstants.{HAND_SIZE}
use Rattle.suit_lists.proofs.Elements.{Contains-nil}

-- the facts, after so many moves and finished tricks
record Facts (question : Question) (west : List ℕ) (place : Position) (count tricks : ℕ) : Type 0 where
  once : IsDistinct (◌==◌) place.gone
  from_hands : (card : ℕ) → Contains place.gone card → (seat : Seat) × Contains (dealt question west seat) card
  trick : IsTrickAt question west place.gone place.trick
  counted : Counted place count tricks
  held : IsDeal question west
      → tricks + max (held_at_trick question place N) (held_at_trick question place S)
      ≡ max (length question.north) (length question.south)

facts_later : (question : Question) (west : List ℕ) (place : Position) (move : Move) (count tricks : ℕ)
    → Contains (legal_at question west place) move
    → Facts question west place count tricks
    → Facts question west (step question place move) (suc count) (tricks_later place.trick tricks)
facts_later question west place move count tricks legal facts =
    let own = own_at question west place place.trick move refl legal in
    record {
      once = once_later (dealt question west own.0) place.gone (step question place move).gone facts.once own.1;
      from_hands = from_hands_later question west place.gone (step question place move).gone own.0 facts.from_hands
          own.1;
      trick = trick_later question west place move facts.trick legal;
      counted = counted_later question west place move count tricks facts.trick legal facts.counted;
      held = λ deal. held_later question west place move tricks (max (length question.north) (length question.south))
          deal facts.trick legal (facts.held deal);
    }

facts_from : (question : Question) (west : List ℕ) (place : Position) (moves : List Move) (count tricks : ℕ)
    → LegalFrom question west place moves
    → Facts question west place count tricks → (more : ℕ)
    × Facts question west (fold (step question) place moves) (length moves + count) more
unfolding LegalFrom
facts_from question west place [] count tricks legal facts =
    (tricks, subst (λ (n : ℕ). Facts question west place n tricks) (omega arith) facts)
facts_from question west place (move ∷ moves) count tricks legal facts =
    let rest = facts_from question west (step question place move) moves (suc count) (tricks_later place.trick tricks)
    legal.1
    (facts_later question west place move count tricks legal.0 facts) in (
      rest.0,
      subst (λ (n : ℕ). Facts question west (fold (step question) (step question place move) moves) n rest.0)
          (omega arith) rest.1,
    )

distinct_none : IsDistinct {K = ℕ} (◌==◌) []
unfolding IsDistinct
distinct_none = tt

facts_first : (question : Question) (west : List ℕ) → Facts question west (start_place question) 0 0
facts_first question west = record {
  once = distinct_none;
  from_hands = λ card found. absurd (Contains-nil card found);
  trick = tt;
  counted = record { moves = omega arith; won = omega arith };
  held = λ deal. omega (arith, ap length (without-none question.north), ap length (without-none question.south));
}

facts_after : (question : Question) (west : List ℕ) (history : List Move) → IsLegal question west history
    → (tricks : ℕ) × Facts question west (after question history) (length history + 0) tricks
facts_after question west history legal =
    facts_from question west (start_place question) history 0 0 legal (facts_first question west)

-- the trick in progress makes sense after a legal history
pub trick_after : (question : Question) (west : List ℕ) (history : List Move) → IsLegal question west history
    → IsTrickAt question west (after question history).gone (after question history).trick
trick_after question west history legal = (facts_after question west history legal).1.trick

seats_played-least : (question : Question) (west gone : List ℕ) (trick : Trick) → IsTrickAt question west gone trick
    → seats_played trick ≤ 3
seats_played-least question west gone Closed is = omega arith
seats_played-least question west gone (Open turn after winner highest) is = omega arith

tricks_are : (moves tricks played : ℕ) → moves + 0 ≡ 4 * tricks + played → played ≤ 3 → (moves / 4 ≡ tricks)
    × (moves % 4 ≡ played)
tricks_are moves tricks played counted few = (omega arith, omega arith)

-- a position that legal play comes to is a reached one
pub places_are_reached : (question : Question) (west : List ℕ) (history : List Move) → IsLegal question west history
    → IsReached question west history (after question history)
places_are_reached question west history legal =
    let facts = facts_after question west history legal in
    let place : Position = after question history in
    let are = tricks_are (length history) facts.0 (seats_played place.trick) facts.1.counted.moves
    (seats_played-least question west place.gone place.trick facts.1.trick) in
    record {
      once = facts.1.once;
      from_hands = facts.1.from_hands;
      trick = facts.1.trick;
      moves = are.1;
      won = omega (arith, are.0, facts.1.counted.won);
    }

-- the finished tricks have used up the longer hand
pub tricks_use_up_hands : (question : Question) (west : List ℕ) (history : List Move) → IsDeal question west
    → IsLegal question west history
    → length history / 4 + max (held_at_trick question (after question history) N)
    (held_at_trick question (after question history) S)
    ≡ max (length question.north) (length question.south)
tricks_use_up_hands question west history deal legal =
    let facts = facts_after question west history legal in
    let place : Position = after question history in
    let are = tricks_are (length history) facts.0 (seats_played place.trick) facts.1.counted.moves
    (seats_played-least question west place.gone place.trick facts.1.trick) in
    ap (λ (n : ℕ). n + max (held_at_trick question place N) (held_at_trick question place S)) are.0 ∙ facts.1.held deal

-- tricks won and cards still held, one played to the trick in progress included, fit into the longer hand that declarer
-- was dealt
pub won_tricks_fit : (question : Question) (west : List ℕ) (history : List Move) → IsDeal question west
    → IsLegal question west history
    → (after question history).won
    + max (held_at_trick question (after question history) N) (held_at_trick question (after question history) S)
    ≤ max (length question.north) (length question.south)
won_tricks_fit question west history deal legal =
    let reached = places_are_reached question west history legal in
    omega (arith, reached.won, tricks_use_up_hands question west history deal legal)

-- declarer wins thirteen tricks at most
pub thirteen_tricks : (question : Question) (west : List ℕ) (history : List Move) → IsDeal question west
    → IsLegal question west history
    → (after question history).won ≤ HAND_SIZE
thirteen_tricks question west history deal legal =
    omega (
      arith,
      won_tricks_fit question west history deal legal,
      holdings_fit question.north question.south deal.north deal.south deal.apart,
    )
