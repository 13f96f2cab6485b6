-- The tricks won, as play goes on from a position.
use Rattle.std.proofs.Common.{◌≡◌, ℕ, zero, suc, ◌+◌, ◌≤◌, max, List, [], ◌∷◌, refl, inl, inr, arith}
use Rattle.std.specs.Prelude.{fold, Contains}
use Rattle.suit_cards.specs.declared.seats.Seat.TheVariants.{N, S}
use Rattle.suit_game.specs.declared.question.Question.{Question}
use Rattle.suit_game.specs.declared.moves.Move.{Move}
use Rattle.suit_game.specs.Deals.{IsDeal}
use Rattle.suit_game.specs.Positions.{Position, Trick, Closed, Open, after, legal_at, step, LegalFrom, IsLegal}
use Rattle.suit_game.specs.Reached.{held_at_trick, IsTrickAt, IsWithin}
use Rattle.suit_game.proofs.MovesCounted.{tricks_later, held_later}
use Rattle.suit_game.proofs.EachPlaceIsReached.{trick_after}
use Rattle.suit_game.proofs.TricksReached.{trick_later}
use Rattle.suit_game.proofs.TurnsTaken.{follow_passes, last_ends, lead_opens}

-- a move wins no more tricks than it finishes
won_at : (question : Question) (west : List ℕ) (place : Position) (trick : Trick) (move : Move) (tricks : ℕ)
    → place.trick ≡ trick
    → Contains (legal_at question west place) move
    → (place.won ≤ (step question place move).won)
    × ((step question place move).won + tricks ≤ place.won + tricks_later trick tricks)
won_at question west place Closed move tricks is legal = elim (lead_opens question west place move is legal) [
  | inl north ↦ (omega (arith, north.1.1), omega (arith, north.1.1))
  | inr south ↦ (omega (arith, south.1.1), omega (arith, south.1.1))
]
won_at question west place (Open turn zero winner highest) move tricks is legal =
    let over = last_ends question west place turn winner highest move is legal in
    (over.1, omega (arith, over.2))
won_at question west place (Open turn (suc after) winner highest) move tricks is legal =
    let passed = follow_passes question west place turn after winner highest move is legal in
    (omega (arith, passed.1), omega (arith, passed.1))

within_step : (question : Question) (west : List ℕ) (place : Position) (move : Move) → IsDeal question west
    → IsTrickAt question west place.gone place.trick → Contains (legal_at question west place) move
    → IsWithin question place (step question place move)
within_step question west place move deal makes_sense legal =
    let longer : ℕ = max (held_at_trick question place N) (held_at_trick question place S) in
    let held = held_later question west place move 0 (0 + longer) deal makes_sense legal refl in
    let won = won_at question west place place.trick move 0 refl legal in
    record { won_least = won.0; won_most = omega (arith, won.1, held) }

within_all : (question : Question) (west : List ℕ) (place : Position) (moves : List Move) → IsDeal question west
    → IsTrickAt question west place.gone place.trick → LegalFrom question west place moves
    → IsWithin question place (fold (step question) place moves)
unfolding LegalFrom
within_all question west place [] deal makes_sense legal = record { won_least = omega arith; won_most = omega arith }
within_all question west place (move ∷ moves) deal makes_sense legal =
    let first = within_step question west place move deal makes_sense legal.0 in
    let rest = within_all question west (step question place move) moves deal
    (trick_later question west place move makes_sense legal.0) legal.1 in
    record {
      won_least = omega (arith, first.won_least, rest.won_least);
      won_most = omega (arith, first.won_most, rest.won_most);
    }

-- the tricks won do not fall, and together with the longer hand left they do not rise
pub won_stays_within : (question : Question) (west : List ℕ) (history moves : List Move) → IsDeal question west
    → IsLegal question west history
    → LegalFrom question west (after question history) moves
    → IsWithin question (after question history) (fold (step question) (after question history) moves)
won_stays_within question west history moves deal legal goes_on =
    within_all question west (after question history) moves deal (trick_after question west history legal) goes_on
