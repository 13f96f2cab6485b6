-- Deals, and what a trick takes from them.
use Rattle.std.specs.Prelude.{◌≡◌, ℕ, ◌+◌, ◌-◌, ◌≤◌, not, length, IsTrue}
use Rattle.std.specs.List.{list_any}
use Rattle.suit_cards.specs.declared.seats.Seat.TheVariants.{N, S}
use Rattle.suit_cards.specs.Holdings.{IsHolding, holds}
use Rattle.suit_cards.specs.Cards.{Cards}
use Rattle.suit_game.specs.declared.question.Question.{Question}
use Rattle.suit_game.specs.Positions.{Position, Closed, declarer_hand}
use Rattle.suit_game.specs.Question.{missing}

-- declarer's hands are holdings that share no card, and West's cards are missing ones
pub record IsDeal (question : Question) (west : Cards) : Type 0 where
  pub north : IsHolding question.north
  pub south : IsHolding question.south
  pub apart : IsTrue (not (list_any (holds question.south) question.north))
  pub defenders : (card : ℕ) → IsTrue (holds west card) → IsTrue (holds (missing question) card)

-- a position is another one a trick later
pub record IsTrickLater (question : Question) (before later : Position) : Type 0 where
  pub closed : later.trick ≡ Closed
  -- each hand of declarer that had a card has one fewer
  pub north : length (declarer_hand question later N) ≡ length (declarer_hand question before N) - 1
  pub south : length (declarer_hand question later S) ≡ length (declarer_hand question before S) - 1
  -- declarer has won the trick, or not
  pub won_least : before.won ≤ later.won
  pub won_most : later.won ≤ before.won + 1
