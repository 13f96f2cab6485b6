-- An answer of a round shows its value (`shown`).
use Rattle.std.proofs.Common.{◌≡◌, true, sym, ap, ◌∙◌, subst}
use Rattle.std.specs.Prelude.{ℤ, pos, ◌*ℤ◌, ◌<ℤ◌}
use Rattle.std.proofs.lemmas.Bool.Decides.{Decides-int_eq}
use Rattle.suit_num.proofs.FractionLaws.{fraction_same_trans}
use Rattle.suit_num.proofs.IntegerLaws.{int_le-true, mul_assoc}
use Rattle.suit_game.specs.declared.question.Question.{Question}
use Rattle.suit_game.specs.Layouts.{total}
use Rattle.suit_game.specs.Validity.{IsValid}
use Rattle.suit_plans.specs.BestReplies.{least, most}
use Rattle.suit_plans.specs.declared.plan.Plan.{Plan}
use Rattle.suit_plans.specs.declared.defence.Defence.{Defence}
use Rattle.suit_plans.specs.Properness.{IsProperDefence, IsProperPlan}
use Rattle.suit_plans.proofs.ProperDefences.{proper_defence}
use Rattle.suit_plans.proofs.ProperPlans.{proper_plan}
use Rattle.suit_program.specs.Supports.{Support}
use Rattle.suit_program.proofs.lemmas.Readings.DefencesHoldTheWorth.{read_defences_are_proper}
use Rattle.suit_program.proofs.lemmas.Readings.PlansKeepTheWorth.{read_plans_are_proper}
use Rattle.suit_answer.specs.declared.answer.Answer.{Answer}
use Rattle.suit_answer.specs.Reduced.{fraction}
use Rattle.suit_answer.proofs.OneFractionInLowestTerms.{fraction_exact, some_from_one, whole_over}
use Rattle.suit_solve.specs.Comparing.{IsShown, answer_of, are_met}
use Rattle.suit_solve.proofs.Rounds.{IsMetAt}

-- the denominator of a proper plan is positive
pub plan_over : (question : Question) (plan : Plan) → IsProperPlan question plan → pos 0 <ℤ plan.den
plan_over question plan proper =
    some_from_one plan.den (int_le-true (pos 1) plan.den (proper_plan question plan proper).0)

-- and so is that of a proper defence
pub defence_over : (question : Question) (defence : Defence) → IsProperDefence question defence
    → pos 0 <ℤ defence.den
defence_over question defence proper =
    some_from_one defence.den (int_le-true (pos 1) defence.den (proper_defence question defence proper).0)

-- where a proper plan and a proper defence meet, their answer shows its value
pub shown_of : (question : Question) (plan : Plan) (defence : Defence) → IsValid question
    → IsProperPlan question plan → IsProperDefence question defence → are_met question plan defence ≡ true
    → IsShown question (answer_of question plan defence)
unfolding answer_of
shown_of question plan defence valid plays holds met =
    let earned : ℤ = least question plan in
    let allowed : ℤ = most question defence in
    let weight : ℤ = pos (total question) in
    let value = fraction earned (plan.den *ℤ weight) in
    let over : pos 0 <ℤ (plan.den *ℤ weight) =
    whole_over question plan.den valid (plan_over question plan plays) in
    let exact : earned *ℤ value.den ≡ value.num *ℤ (plan.den *ℤ weight) =
    fraction_exact earned (plan.den *ℤ weight) over in
    let same : earned *ℤ defence.den ≡ allowed *ℤ plan.den =
    (Decides-int_eq (earned *ℤ defence.den) (allowed *ℤ plan.den)).0 met in
    record {
      plan = plays;
      defence = holds;
      least = exact;
      most = fraction_same_trans allowed (defence.den *ℤ weight) earned (plan.den *ℤ weight) value.num value.den over
          (sym (mul_assoc allowed plan.den weight) ∙ ap (λ (z : ℤ). z *ℤ weight) (sym same)
          ∙ mul_assoc earned defence.den weight)
          exact;
    }

-- so does the answer of a round
pub shown : (question : Question) (support : Support) (answer : Answer) → IsMetAt question support answer
    → IsShown question answer
shown question support answer is =
    subst (IsShown question) is.answer_is
    (shown_of question _ _ is.read.valid
    (read_plans_are_proper question support is.optimum is.read.readable)
    (read_defences_are_proper question support is.optimum is.read.priced) is.met)
