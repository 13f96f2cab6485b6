-- How the rows of a plan are read by a walk over what is reached, for the contracts of private functions.
use Rattle.std.specs.Prelude.{◌≡◌, ℕ, List, [], ◌∷◌, Option, Some, None, ℤ, if◌then◌else◌}
use Rattle.suit_game.specs.declared.question.Question.{Question}
use Rattle.suit_classes.specs.ClassMoves.{ClassHistory}
use Rattle.suit_plans.specs.declared.plan.Row.{Row}
use Rattle.suit_plans.specs.Masses.{Shares}
use Rattle.suit_linear.specs.declared.ends.Optimum.{Optimum}
use Rattle.suit_program.specs.declared.walks.plan_reader.PlanReader.{PlanReader}
use Rattle.suit_program.specs.declared.walks.reach.Reach.{Reach}
use Rattle.suit_program.specs.Programs.{columns, columns_at}
use Rattle.suit_program.specs.Walks.Reaches.{IsReach}
use Rattle.suit_program.specs.Readings.ReadingLaws.{IsReadable}
use Rattle.suit_program.specs.Readings.{Reading, has_row, parts_of, plan_den, plan_point, plan_reading, read_mass}
use Rattle.suit_program.specs.Readings.{read_shares, row_counts}
use Rattle.suit_program.specs.Readings.Sharing.{wants_row, without_nothing}
use Rattle.suit_program.specs.Supports.{Support}
use Rattle.suit_program.specs.Walks.{StandsIn, walked}

-- how a plan is read from an optimum
abbrev pub reading_of : Question → Support → Optimum → Reading
reading_of question support optimum =
    plan_reading question support (plan_point question support (parts_of optimum.point))

-- the shares at a class history, where there is a choice
abbrev pub shares_here : Reading → ClassHistory → Option Shares
shares_here reading history = if reading.chooses history then Some (read_shares reading history) else None

-- its row, if it has one
abbrev pub row_here : Reading → ClassHistory → List Row
row_here reading history =
    if has_row reading history then record { history = history; counts = row_counts reading history } ∷ [] else []

-- the row that shares of a mass make
abbrev pub row_of_shares : ClassHistory → ℤ → Option Shares → List Row
row_of_shares history mass None = []
row_of_shares history mass (Some shares) =
    if wants_row mass shares then record { history = history; counts = without_nothing shares } ∷ [] else []

-- what reads a plan is at a reached class history: it holds the parts of an optimum and the plan's denominator, and is
-- told the column with which this class history begins, and its mass
pub record IsPlanTurn (reader : PlanReader) (reach : Reach) (column : ℕ) (mass : ℤ) : Type 0 where
  pub question : Question
  pub support : Support
  pub history : ClassHistory
  pub optimum : Optimum
  pub readable : IsReadable question support optimum
  pub parts : optimum.point ≡ reader.parts.now
  pub den : reader.den ≡ plan_den question support (parts_of optimum.point)
  pub reached : IsReach question support history reach
  pub columns : StandsIn (columns question support) column (walked (columns_at question support) question support
      history)
  pub is_mass : mass ≡ read_mass (reading_of question support optimum) history

-- and the class history is told
pub record IsPlanStop (reader : PlanReader) (reach : Reach) (history : ClassHistory) (column : ℕ) (mass : ℤ) : Type 0
  where
    pub turn : IsPlanTurn reader reach column mass
    pub here : turn.history ≡ history
