-- How many rows and columns stand at the class histories that are reached, from one of them on.
use Rattle.std.specs.Prelude.{◌≡◌, ℕ, ◌+◌, ◌-◌, length, sum_by}
use Rattle.suit_cards.specs.Cards.{ClassLayout}
use Rattle.suit_game.specs.declared.question.Question.{Question}
use Rattle.suit_game.specs.declared.limits.TheConstants.{MOST_MOVES}
use Rattle.suit_classes.specs.ClassMoves.{ClassHistory}
use Rattle.suit_program.specs.declared.walks.reach.Reach.{Reach}
use Rattle.suit_program.specs.Programs.{answered_limits, columns_at, held_column, limits_at}
use Rattle.suit_program.specs.Walks.Reaches.{IsReach}
use Rattle.suit_program.specs.Supports.{Support, histories_from}

-- at a class history
abbrev pub size_at : Question → Support → ClassHistory → ℕ
size_at question support history =
    length (limits_at question support history) + length (columns_at question support history)

-- from it on
abbrev pub size_from : Question → Support → ClassHistory → ℕ
size_from question support history =
    sum_by (size_at question support) (histories_from question support (MOST_MOVES - length history) history)

-- at it, for the defence in a class layout
abbrev pub layout_size : Question → Support → ClassHistory → ClassLayout × ℕ → ℕ
layout_size question support history layout =
    length (answered_limits question support history layout) + length (held_column question history layout)

-- a walk stands at a class history after which at most so many moves come
pub record IsReachBefore (more : ℕ) (reach : Reach) : Type 0 where
  pub question : Question
  pub support : Support
  pub history : ClassHistory
  pub reached : IsReach question support history reach
  pub left : more ≡ MOST_MOVES - length history
