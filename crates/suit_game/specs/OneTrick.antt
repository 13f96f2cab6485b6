-- Questions with at most one card in each declarer hand: there is one trick at most, and the ace wins it.
use Rattle.std.specs.Prelude.{ℕ, ◌≤◌, ◌&&◌, ◌||◌, not, length, if◌then◌else◌}
use Rattle.suit_cards.specs.Holdings.{IsHolding, holds}
use Rattle.suit_game.specs.declared.question.Question.{Question}
use Rattle.suit_game.specs.Positions.{start_place, has_ended, payoff}

-- no declarer hand has two cards
pub record IsOneTrick (question : Question) : Type 0 where
  pub north : IsHolding question.north
  pub south : IsHolding question.south
  pub north_one : length question.north ≤ 1
  pub south_one : length question.south ≤ 1

-- the tricks that declarer is sure of: the only one, where a lead is legal and a declarer hand has the ace
abbrev pub sure_tricks : Question → ℕ
sure_tricks question =
    if (holds question.north 14 || holds question.south 14) && not (has_ended question (start_place question)) then 1
    else 0

-- what they are worth
abbrev pub one_trick_value : Question → ℕ
one_trick_value question = payoff question.goal (sure_tricks question)
