-- How many moves a history can have.
use Rattle.std.proofs.Common.{◌≡◌, ℕ, ◌+◌, ◌*◌, ◌≤◌, Bool, true, List, [], ◌∷◌, length, ap}
use Rattle.std.proofs.Common.{subst, arith, IsTrue}
use Rattle.std.specs.Prelude.{not, fold}
use Rattle.std.specs.List.{list_any}
use Rattle.suit_game.specs.declared.limits.TheConstants.{HAND_SIZE, MOST_MOVES}
use Rattle.suit_lists.proofs.Filters.{kept_apart}
use Rattle.suit_cards.specs.Holdings.{IsHolding, holds, suit}
use Rattle.suit_cards.proofs.WhetherARankIsHeld.{holds_tells, shares_tells}
use Rattle.suit_cards.proofs.HoldingIsWhatItHolds.{filter_suit-holds}
use Rattle.suit_game.specs.declared.question.Question.{Question}
use Rattle.suit_game.specs.declared.moves.Move.{Move}
use Rattle.suit_game.specs.Positions.{Position, start_place, step, after, LegalFrom, IsLegal}
use Rattle.suit_game.specs.Lengths.{room}
use Rattle.suit_game.proofs.WhatAHandHolds.{without-none}
use Rattle.suit_game.proofs.Room.{room_falls}

-- play on from a position uses up room, a move each
uses_room : (question : Question) (west : List ℕ) (place : Position) (moves : List Move)
    → LegalFrom question west place moves
    → length moves + room question (fold (step question) place moves) ≤ room question place
unfolding LegalFrom
uses_room question west place [] legal = omega arith
uses_room question west place (move ∷ moves) legal =
    omega (
      arith,
      room_falls question west place move legal.0,
      uses_room question west (step question place move) moves legal.1,
    )

pub histories_use_room : (question : Question) (west : List ℕ) (history : List Move) → IsLegal question west history
    → length history + room question (after question history) ≤ 4 * (length question.north + length question.south)
histories_use_room question west history legal =
    omega (
      arith,
      uses_room question west (start_place question) history legal,
      ap length (without-none question.north),
      ap length (without-none question.south),
    )

-- a card of both hands is shared
shared_card : (here there : List ℕ) (card : ℕ) → holds here card ≡ true → holds there card ≡ true
    → list_any (holds there) here ≡ true
shared_card here there card in_here in_there =
    let stands = (holds_tells here card).0 in_here in
    (shares_tells here there).1 (stands.0, card, stands.1, stands.2, (holds_tells there card).0 in_there)

-- no card of one hand is in the other
pub none_shared : (here there : List ℕ) → IsTrue (not (list_any (holds there) here)) → (card : ℕ)
    → holds here card ≡ true → holds there card ≡ true → ⊥
none_shared here there apart card in_here in_there =
    let shared = shared_card here there card in_here in_there in
    let contrary : IsTrue (not true) = subst (λ (b : Bool). IsTrue (not b)) shared apart in
    cc

-- two hands that share no card have thirteen at most
pub holdings_fit : (north south : List ℕ) → IsHolding north → IsHolding south
    → IsTrue (not (list_any (holds south) north))
    → length north + length south ≤ HAND_SIZE
unfolding suit
holdings_fit north south is_north is_south apart =
    omega (
      arith,
      kept_apart (holds north) (holds south) suit (none_shared north south apart),
      ap length (filter_suit-holds north is_north),
      ap length (filter_suit-holds south is_south),
    )

pub histories_are_short : (question : Question) (west : List ℕ) (history : List Move)
    → IsHolding question.north → IsHolding question.south
    → IsTrue (not (list_any (holds question.south) question.north))
    → IsLegal question west history → length history ≤ MOST_MOVES
histories_are_short question west history north south apart legal =
    omega (
      arith,
      histories_use_room question west history legal,
      holdings_fit question.north question.south north south apart,
    )
