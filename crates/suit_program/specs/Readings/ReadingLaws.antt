-- What holds of the plan and the defence that are read.
use Rattle.std.specs.Prelude.{◌≡◌, ◌≢◌, false, true, [], length, pos, ◌*ℤ◌, ◌≤ℤ◌, ◌<ℤ◌}
use Rattle.suit_game.specs.declared.question.Question.{Question}
use Rattle.suit_game.specs.Validity.{IsValid}
use Rattle.suit_classes.specs.ClassMoves.{ClassHistory}
use Rattle.suit_plans.specs.BestReplies.{least, least_reply, most, most_reply}
use Rattle.suit_plans.specs.declared.plan.Plan.{Plan}
use Rattle.suit_plans.specs.declared.defence.Defence.{Defence}
use Rattle.suit_plans.specs.Properness.{IsProperDefence, IsProperPlan}
use Rattle.suit_linear.specs.declared.ends.Optimum.{Optimum}
use Rattle.suit_linear.specs.Optima.{IsDualOptimum, IsPrimalOptimum}
use Rattle.suit_program.specs.Programs.Points.{IsPositive, Point}
use Rattle.suit_program.specs.Readings.{defence_of, is_too_wide, parts_of, plan_den, plan_of, plan_reading, read_mass}
use Rattle.suit_program.specs.Programs.{program_of, supported_worth}
use Rattle.suit_program.specs.Supports.{Support, are_new, whole_support}
use Rattle.suit_program.specs.Programs.Worths.{mass_at}

-- ---- masses

-- the plan that is read lets through at least what the point does
abbrev pub MassesAreRead : Type 0
MassesAreRead = (question : Question) (support : Support) (point : Point) → IsPositive point
    → (history : ClassHistory)
    → mass_at question support point history ≤ℤ read_mass (plan_reading question support point) history

-- ---- the plan

-- an optimum's point is that of a support's program, and what is read from it is not too wide
pub record IsReadable (question : Question) (support : Support) (optimum : Optimum) : Type 0 where
  pub valid : IsValid question
  pub columns : length optimum.point ≡ length (program_of question support).costs
  pub primal : IsPrimalOptimum (program_of question support) optimum
  pub narrow : is_too_wide question support (parts_of optimum.point) optimum.scale ≡ false

-- the plan that is read is proper
abbrev pub ReadPlansAreProper : Type 0
ReadPlansAreProper = (question : Question) (support : Support) (optimum : Optimum)
    → IsReadable question support optimum
    → IsProperPlan question (plan_of question support (parts_of optimum.point))

-- and where the support has all moves of the best reply to it, it earns at least what the game of the support is worth
abbrev pub ReadPlansKeepTheWorth : Type 0
ReadPlansKeepTheWorth = (question : Question) (support : Support) (optimum : Optimum)
    → IsReadable question support optimum → pos 0 <ℤ optimum.scale
    → are_new question support [] (least_reply question (plan_of question support (parts_of optimum.point))) ≡ false
    → (supported_worth question support optimum.value optimum.scale
    *ℤ plan_den question support (parts_of optimum.point))
    ≤ℤ (least question (plan_of question support (parts_of optimum.point)) *ℤ optimum.scale)

-- ---- the defence

-- an optimum's prices are those of a support's program, and what is read from it is not too wide
pub record IsPriced (question : Question) (support : Support) (optimum : Optimum) : Type 0 where
  pub valid : IsValid question
  pub dual : IsDualOptimum (program_of question support) optimum
  pub narrow : is_too_wide question support (parts_of optimum.point) optimum.scale ≡ false

-- the defence that is read is proper
abbrev pub ReadDefencesAreProper : Type 0
ReadDefencesAreProper = (question : Question) (support : Support) (optimum : Optimum)
    → IsPriced question support optimum
    → IsProperDefence question (defence_of question support optimum.duals optimum.scale)

-- and where the support has all moves of the best reply to it, it lets declarer earn no more than what the game of the
-- support is worth
abbrev pub ReadDefencesHoldTheWorth : Type 0
ReadDefencesHoldTheWorth = (question : Question) (support : Support) (optimum : Optimum)
    → IsPriced question support optimum
    → are_new question support (most_reply question (defence_of question support optimum.duals optimum.scale)) []
    ≡ false
    → most question (defence_of question support optimum.duals optimum.scale)
    ≤ℤ supported_worth question support optimum.value optimum.scale

-- ---- both

-- the plan that is read from an optimum
abbrev pub plan_read : Question → Support → Optimum → Plan
plan_read question support optimum = plan_of question support (parts_of optimum.point)

-- the defence
abbrev pub defence_read : Question → Support → Optimum → Defence
defence_read question support optimum = defence_of question support optimum.duals optimum.scale

-- what the plan earns at least and what the defence lets declarer earn at most, each over its own denominator, are what
-- the game of the support is worth
pub record AreMet (question : Question) (support : Support) (optimum : Optimum) : Type 0 where
  pub least : supported_worth question support optimum.value optimum.scale
      *ℤ plan_den question support (parts_of optimum.point)
      ≡ least question (plan_read question support optimum) *ℤ optimum.scale
  pub most : most question (defence_read question support optimum)
      ≡ supported_worth question support optimum.value optimum.scale

-- so it is where the support has all moves of both best replies
abbrev pub SupportedRepliesMeet : Type 0
SupportedRepliesMeet = (question : Question) (support : Support) (optimum : Optimum)
    → IsReadable question support optimum → IsPriced question support optimum
    → are_new question support (most_reply question (defence_read question support optimum))
    (least_reply question (plan_read question support optimum)) ≡ false
    → AreMet question support optimum

-- and always where it has all moves
abbrev pub WholeSupportsMeet : Type 0
WholeSupportsMeet = (question : Question) (optimum : Optimum) → IsReadable question whole_support optimum
    → IsPriced question whole_support optimum → AreMet question whole_support optimum

-- so where the least over the plan's denominator is not the most over the defence's, one of the best replies has a move
-- that the support has not
abbrev pub SupportsGrow : Type 0
SupportsGrow = (question : Question) (support : Support) (optimum : Optimum)
    → IsReadable question support optimum → IsPriced question support optimum
    → (least question (plan_read question support optimum) *ℤ optimum.scale)
    ≢ (most question (defence_read question support optimum) *ℤ plan_den question support (parts_of optimum.point))
    → are_new question support (most_reply question (defence_read question support optimum))
    (least_reply question (plan_read question support optimum)) ≡ true
