-- A plan and a defence: what they show of a question.
use Rattle.std.specs.Prelude.{◌≡◌, ℤ, pos, ◌*ℤ◌, Bool}
use Rattle.std.specs.Ordering.{int_eq}
use Rattle.suit_game.specs.declared.question.Question.{Question}
use Rattle.suit_game.specs.Layouts.{total}
use Rattle.suit_plans.specs.BestReplies.{least, most}
use Rattle.suit_plans.specs.declared.plan.Plan.{Plan}
use Rattle.suit_plans.specs.declared.defence.Defence.{Defence}
use Rattle.suit_plans.specs.Properness.{IsProperDefence, IsProperPlan}
use Rattle.suit_answer.specs.declared.answer.Answer.{Answer}
use Rattle.suit_answer.specs.Reduced.{fraction}

-- whether what the plan earns at least is what the defence lets declarer earn at most, each over its own denominator;
-- the total weight is the same for both
abbrev pub are_met : Question → Plan → Defence → Bool
are_met question plan defence = int_eq (least question plan *ℤ defence.den) (most question defence *ℤ plan.den)

-- the answer of a plan and a defence, the value of which is what the plan earns at least
unfoldable pub answer_of : Question → Plan → Defence → Answer
answer_of question plan defence = record {
  value = fraction (least question plan) (plan.den *ℤ pos (total question));
  plan = plan;
  defence = defence;
}

-- a number over a denominator and the total weight comes to the value of an answer
abbrev pub ComesTo : Question → ℤ → ℤ → Answer → Type 0
ComesTo question number den answer =
    number *ℤ answer.value.den ≡ answer.value.num *ℤ (den *ℤ pos (total question))

-- an answer shows its value: its plan and its defence are realisation plans, and both numbers come to the value
pub record IsShown (question : Question) (answer : Answer) : Type 0 where
  pub plan : IsProperPlan question answer.plan
  pub defence : IsProperDefence question answer.defence
  pub least : ComesTo question (least question answer.plan) answer.plan.den answer
  pub most : ComesTo question (most question answer.defence) answer.defence.den answer
