-- What holds of each position that legal play comes to.
use Rattle.std.specs.Prelude.{◌≡◌, ℕ, zero, suc, ◌+◌, ◌-◌, ◌/◌, ◌%◌, ◌≤◌, max, ◌||◌, ◌==◌, Bool, false, length}
use Rattle.std.specs.Prelude.{Contains, if◌then◌else◌}
use Rattle.std.specs.List.{IsDistinct}
use Rattle.suit_cards.specs.declared.seats.Seat.{Seat}
use Rattle.suit_cards.specs.declared.seats.Seat.TheVariants.{N, S}
use Rattle.suit_cards.specs.Seats.{clockwise}
use Rattle.suit_cards.specs.Cards.{Cards}
use Rattle.suit_game.specs.declared.question.Question.{Question}
use Rattle.suit_game.specs.Gains.{is_declarer}
use Rattle.suit_game.specs.Positions.{Position, Trick, Closed, Open, dealt, declarer_hand}
use Rattle.suit_game.specs.Strategies.{same_seat}
use Rattle.suit_game.specs.Histories.{History}

-- whether a seat is on turn, or among the seats that play after it
abbrev pub is_to_play : Seat → ℕ → Seat → Bool
is_to_play turn zero seat = same_seat turn seat
is_to_play turn (suc after) seat = same_seat turn seat || is_to_play (clockwise turn) after seat

-- how many seats have played to the trick in progress
abbrev pub seats_played : Trick → ℕ
seats_played Closed = 0
seats_played (Open turn after winner highest) = 3 - after

-- 1 where a seat has had its turn in the trick in progress
abbrev pub turns_had : Trick → Seat → ℕ
turns_had Closed seat = 0
turns_had (Open turn after winner highest) seat = if is_to_play turn after seat then 0 else 1

-- the cards of a declarer hand, and one more where it has had its turn in the trick in progress
abbrev pub held_at_trick : Question → Position → Seat → ℕ
held_at_trick question place seat = length (declarer_hand question place seat) + turns_had place.trick seat

-- what holds of a trick in progress, where these cards are gone
pub record IsOpen (question : Question) (west gone : Cards) (turn : Seat) (after : ℕ) (winner : Seat)
    (highest : ℕ) : Type 0 where
  pub after_most : after ≤ 2
  -- declarer led, so that declarer's other hand is third
  pub sides : is_declarer turn ≡ (after == 1)
  -- the winner so far has played the highest card
  pub highest_gone : Contains gone highest
  pub highest_dealt : Contains (dealt question west winner) highest
  pub winner_played : is_to_play turn after winner ≡ false

-- the same of a trick or none
abbrev pub IsTrickAt : Question → (west gone : Cards) → Trick → Type 0
IsTrickAt question west gone Closed = Unit {0}
IsTrickAt question west gone (Open turn after winner highest) = IsOpen question west gone turn after winner highest

-- what holds of a position that a legal history has come to
pub record IsReached (question : Question) (west : Cards) (history : History) (place : Position) : Type 0 where
  -- no card goes twice, and each was dealt to a seat
  pub once : IsDistinct (◌==◌) place.gone
  pub from_hands : (card : ℕ) → Contains place.gone card → (seat : Seat) × Contains (dealt question west seat) card
  pub trick : IsTrickAt question west place.gone place.trick
  -- four moves are a trick, and declarer won some of the tricks that are finished
  pub moves : length history % 4 ≡ seats_played place.trick
  pub won : place.won ≤ length history / 4

-- the tricks won at a later position lie within what an earlier one left open
pub record IsWithin (question : Question) (before later : Position) : Type 0 where
  pub won_least : before.won ≤ later.won
  pub won_most : later.won + max (held_at_trick question later N) (held_at_trick question later S)
      ≤ before.won + max (held_at_trick question before N) (held_at_trick question before S)
