-- The finding over an answer, by the first test that does not pass (`told_plan`, `told_defence`, `told_least`,
-- `told_most`, `told_valid`).
use Rattle.std.proofs.Common.{◌≡◌, Bool, true, false, not, Err, refl, sym, ap, ◌∙◌}
use Rattle.std.proofs.lemmas.Bool.{false≢true}
use Rattle.std.specs.Prelude.{⊤, Result, if◌then◌else◌}
use Rattle.suit_game.specs.declared.question.Question.{Question}
use Rattle.suit_plans.specs.BestReplies.{least, most}
use Rattle.suit_plans.specs.Properness.{IsProperDefence, IsProperPlan, defence_verdict, plan_verdict}
use Rattle.suit_plans.specs.declared.faults.PlanFault.{PlanFault}
use Rattle.suit_answer.specs.declared.answer.Answer.{Answer}
use Rattle.suit_check.specs.Verdicts.{Defence, Finding, Least, Most, Parts, Plan, Valid, parts_of, same_parts}
use Rattle.suit_check.specs.Verdicts.{unless_fault}
use Rattle.suit_check.specs.Verdicts.{unless_other, value_of, verdict_of}

-- what a test says that its opposite passes, or does not
pub denied : (b : Bool) → not b ≡ true → b ≡ false
denied true is = absurd (false≢true is)
denied false is = refl

pub granted : (b : Bool) → not b ≡ false → b ≡ true
granted true is = refl
granted false is = absurd (false≢true (sym is))

module _ (question : Question) (answer : Answer) where
  -- what the plan earns at least, and what the defence gives up at most
  abbrev pub earned : Parts
  earned = value_of question (least question answer.plan) answer.plan.den

  abbrev pub given_up : Parts
  given_up = value_of question (most question answer.defence) answer.defence.den

  -- what is found where plan and defence are proper
  abbrev pub found_met : Finding
  found_met = unless_other answer earned Least (unless_other answer given_up Most Valid)

  pub told_plan : (fault : PlanFault) → plan_verdict question answer.plan ≡ Err fault
      → verdict_of question answer ≡ Plan fault
  unfolding verdict_of
  told_plan fault is =
      ap (λ (r : Result ⊤ PlanFault). unless_fault r Plan
      (unless_fault (defence_verdict question answer.defence) Defence found_met)) is

  past_plan : IsProperPlan question answer.plan
      → verdict_of question answer ≡ unless_fault (defence_verdict question answer.defence) Defence found_met
  unfolding verdict_of
  past_plan proper =
      ap (λ (r : Result ⊤ PlanFault). unless_fault r Plan
      (unless_fault (defence_verdict question answer.defence) Defence found_met)) proper

  pub told_defence : (fault : PlanFault) → IsProperPlan question answer.plan
      → defence_verdict question answer.defence ≡ Err fault → verdict_of question answer ≡ Defence fault
  told_defence fault proper is =
      past_plan proper ∙ ap (λ (r : Result ⊤ PlanFault). unless_fault r Defence found_met) is

  past_defence : IsProperPlan question answer.plan → IsProperDefence question answer.defence
      → verdict_of question answer ≡ found_met
  past_defence proper held =
      past_plan proper ∙ ap (λ (r : Result ⊤ PlanFault). unless_fault r Defence found_met) held

  module _ (proper : IsProperPlan question answer.plan) (held : IsProperDefence question answer.defence) where
    pub told_least : same_parts earned (parts_of answer.value) ≡ false → verdict_of question answer ≡ Least earned
    told_least other =
        past_defence proper held
        ∙ ap (λ (b : Bool). if b then unless_other answer given_up Most Valid else Least earned) other

    past_least : same_parts earned (parts_of answer.value) ≡ true
        → verdict_of question answer ≡ unless_other answer given_up Most Valid
    past_least same =
        past_defence proper held
        ∙ ap (λ (b : Bool). if b then unless_other answer given_up Most Valid else Least earned) same

    pub told_most : same_parts earned (parts_of answer.value) ≡ true
        → same_parts given_up (parts_of answer.value) ≡ false → verdict_of question answer ≡ Most given_up
    told_most same other = past_least same ∙ ap (λ (b : Bool). if b then Valid else Most given_up) other

    pub told_valid : same_parts earned (parts_of answer.value) ≡ true
        → same_parts given_up (parts_of answer.value) ≡ true → verdict_of question answer ≡ Valid
    told_valid same also = past_least same ∙ ap (λ (b : Bool). if b then Valid else Most given_up) also
