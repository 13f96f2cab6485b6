-- The verdict over an answer to a question: the first of its faults, else that it is valid.
use Rattle.std.specs.Prelude.{⊤, ◌&&◌, Bool, Result, Ok, Err, if◌then◌else◌, ℤ}
use Rattle.std.specs.Ordering.{int_eq}
use Rattle.suit_num.specs.declared.fraction.Frac.{Frac}
use Rattle.suit_game.specs.declared.question.Question.{Question}
use Rattle.suit_plans.specs.BestReplies.{least, most}
use Rattle.suit_plans.specs.Properness.{defence_verdict, plan_verdict}
use Rattle.suit_plans.specs.declared.faults.PlanFault.{PlanFault}
use Rattle.suit_answer.specs.declared.answer.Answer.{Answer}
use Rattle.suit_answer.specs.Reduced.{value_over}
use Rattle.suit_check.specs.declared.verdict.Verdict.{Verdict}
use Rattle.suit_check.specs.declared.verdict.Verdict.TheVariants as verdicts

-- a fraction: its numerator and its denominator
abbrev pub Parts : Type 0
Parts = ℤ × ℤ

abbrev pub parts_of : Frac → Parts
parts_of fraction = (fraction.num, fraction.den)

-- a number over a denominator and the total weight, in lowest terms
abbrev pub value_of : Question → ℤ → ℤ → Parts
value_of question number den = parts_of (value_over question number den)

-- whether two fractions have the same parts
abbrev pub same_parts : Parts → Parts → Bool
same_parts here there = int_eq here.0 there.0 && int_eq here.1 there.1

-- what can be found of an answer; what a plan earns or a defence gives up is told by the parts of a fraction
pub data Finding : Type 0 where
  Valid : Finding
  Plan : PlanFault → Finding
  Defence : PlanFault → Finding
  Least : Parts → Finding
  Most : Parts → Finding

-- a verdict as a finding
abbrev pub seen : Verdict → Finding
seen verdicts.Valid = Valid
seen (verdicts.Plan fault) = Plan fault
seen (verdicts.Defence fault) = Defence fault
seen (verdicts.Least found) = Least (parts_of found)
seen (verdicts.Most found) = Most (parts_of found)

-- what is found where a test passes, and what its fault makes of it where it does not
abbrev pub unless_fault : Result ⊤ PlanFault → (PlanFault → Finding) → Finding → Finding
unless_fault (Ok passed) told later = later
unless_fault (Err fault) told later = told fault

-- what is found where a fraction is the value, and what the fraction makes of it where it is not
abbrev pub unless_other : Answer → Parts → (Parts → Finding) → Finding → Finding
unless_other answer found told later = if same_parts found (parts_of answer.value) then later else told found

-- the verdict over an answer: first the plan, then the defence, then what the plan earns at least, and then what the
-- defence gives up at most
unfoldable pub verdict_of : Question → Answer → Finding
verdict_of question answer =
    unless_fault (plan_verdict question answer.plan) Plan
    (unless_fault (defence_verdict question answer.defence) Defence
    (unless_other answer (value_of question (least question answer.plan) answer.plan.den) Least
    (unless_other answer (value_of question (most question answer.defence) answer.defence.den) Most
    Valid)))
