-- valid_is_met, found_are_exact: what a finding says of an answer.
use Rattle.std.proofs.Common.{◌≡◌, Bool, true, false, Ok, Err, ap, sym, ◌∙◌, subst, refl}
use Rattle.std.specs.Prelude.{⊤, Result, if◌then◌else◌, ℤ, pos, ◌*ℤ◌, ◌≤ℤ◌}
use Rattle.std.specs.Ordering.{int_eq}
use Rattle.std.proofs.lemmas.Bool.{and_from, and_parts}
use Rattle.std.proofs.lemmas.Bool.Decides.{Decides-int_eq}
use Rattle.suit_num.proofs.IntegerLaws.{int_le-true}
use Rattle.suit_num.specs.declared.fraction.Frac.{Frac}
use Rattle.suit_game.specs.declared.question.Question.{Question}
use Rattle.suit_game.specs.Layouts.{total}
use Rattle.suit_game.specs.Validity.{IsValid}
use Rattle.suit_plans.specs.BestReplies.{least, most}
use Rattle.suit_plans.specs.Properness.{IsProperDefence, IsProperPlan, defence_verdict, plan_verdict}
use Rattle.suit_plans.specs.declared.faults.PlanFault.{PlanFault}
use Rattle.suit_plans.proofs.ProperDefences.{proper_defence}
use Rattle.suit_plans.proofs.ProperPlans.{proper_plan}
use Rattle.suit_plans.specs.declared.plan.TheConstants.{MOST_DEN}
use Rattle.suit_answer.specs.declared.answer.Answer.{Answer}
use Rattle.suit_answer.specs.Reduced.{value_over}
use Rattle.suit_answer.proofs.OneFractionInLowestTerms.{fraction_exact, made_fraction, some_from_one, whole_over}
use Rattle.suit_check.specs.Verdicts.{Defence, Least, Most, Parts, Plan, Valid, parts_of, same_parts, unless_fault}
use Rattle.suit_check.specs.Verdicts.{unless_other, value_of, verdict_of}
use Rattle.suit_check.specs.VerdictLaws.{ComesTo, FoundAreExact, IsExact, IsMet, IsTold, ValidIsMet}
use Rattle.suit_check.proofs.FindingByTheFirstTest.{earned, found_met, given_up, told_valid}

-- ---- fractions

-- the parts of two fractions are tested alike where they are the same
pub parts_alike : (here there : Parts) → same_parts here there ≡ true → here ≡ there
parts_alike here there same =
    let both = and_parts (int_eq here.0 there.0) (int_eq here.1 there.1) same in
    ap (λ (z : ℤ). (z, here.1)) ((Decides-int_eq here.0 there.0).0 both.0)
    ∙ ap (λ (z : ℤ). (there.0, z)) ((Decides-int_eq here.1 there.1).0 both.1)

parts_same : (here there : Parts) → here ≡ there → same_parts here there ≡ true
parts_same here there is =
    and_from (int_eq here.0 there.0) (int_eq here.1 there.1)
    ((Decides-int_eq here.0 there.0).1 (ap (λ (parts : Parts). parts.0) is))
    ((Decides-int_eq here.1 there.1).1 (ap (λ (parts : Parts). parts.1) is))

module _ (question : Question) (valid : IsValid question) (number den : ℤ) (one : pos 1 ≤ℤ den) where
  -- the fraction that is found is exact
  value_exact : IsExact question number den (value_of question number den)
  value_exact =
      let found : Frac = value_over question number den in
      record {
        exact = fraction_exact number (den *ℤ pos (total question))
            (whole_over question den valid (some_from_one den one));
        positive = found.positive;
        lowest = found.coprime;
      }

  -- it is the value of an answer exactly where the number comes to this
  value_met : (answer : Answer) → same_parts (value_of question number den) (parts_of answer.value) ≡ true
      → ComesTo question number den (answer.value.num, answer.value.den)
  value_met answer same =
      subst (ComesTo question number den)
      (parts_alike (value_of question number den) (parts_of answer.value) same) value_exact.exact

  met_value : (answer : Answer) → ComesTo question number den (answer.value.num, answer.value.den)
      → same_parts (value_of question number den) (parts_of answer.value) ≡ true
  met_value answer comes =
      parts_same (value_of question number den) (parts_of answer.value)
      (ap parts_of (sym (made_fraction answer.value number (den *ℤ pos (total question))
      (whole_over question den valid (some_from_one den one)) comes)))

-- ---- findings

-- what has passed where nothing is found
record HasPassed (plan defence : Result ⊤ PlanFault) (least_met most_met : Bool) : Type 0 where
  plan_passed : plan ≡ Ok tt
  defence_passed : defence ≡ Ok tt
  least_same : least_met ≡ true
  most_same : most_met ≡ true

passed : (plan defence : Result ⊤ PlanFault) (least_met most_met : Bool) (earns gives : Parts)
    → unless_fault plan Plan (unless_fault defence Defence
    (if least_met then (if most_met then Valid else Most gives) else Least earns)) ≡ Valid
    → HasPassed plan defence least_met most_met
passed (Err fault) defence least_met most_met earns gives is = absurd (cc)
passed (Ok one) (Err fault) least_met most_met earns gives is = absurd (cc)
passed (Ok one) (Ok other) false most_met earns gives is = absurd (cc)
passed (Ok one) (Ok other) true false earns gives is = absurd (cc)
passed (Ok one) (Ok other) true true earns gives is =
    record { plan_passed = refl; defence_passed = refl; least_same = refl; most_same = refl }

-- the denominators of proper plans and defences
pub plan_bounds : (question : Question) (answer : Answer) → IsProperPlan question answer.plan
    → (pos 1 ≤ℤ answer.plan.den) × (answer.plan.den ≤ℤ MOST_DEN)
plan_bounds question answer proper =
    let parts = proper_plan question answer.plan proper in
    (int_le-true (pos 1) answer.plan.den parts.0, int_le-true answer.plan.den MOST_DEN parts.1)

pub defence_bounds : (question : Question) (answer : Answer) → IsProperDefence question answer.defence
    → (pos 1 ≤ℤ answer.defence.den) × (answer.defence.den ≤ℤ MOST_DEN)
defence_bounds question answer proper =
    let parts = proper_defence question answer.defence proper in
    (int_le-true (pos 1) answer.defence.den parts.0, int_le-true answer.defence.den MOST_DEN parts.1)

module _ (question : Question) (answer : Answer) (valid : IsValid question) where
  plan_den : IsProperPlan question answer.plan → pos 1 ≤ℤ answer.plan.den
  plan_den proper = (plan_bounds question answer proper).0

  defence_den : IsProperDefence question answer.defence → pos 1 ≤ℤ answer.defence.den
  defence_den proper = (defence_bounds question answer proper).0

  met : verdict_of question answer ≡ Valid → IsMet question answer
  unfolding verdict_of
  met is =
      let value : Parts = parts_of answer.value in
      let all = passed (plan_verdict question answer.plan) (defence_verdict question answer.defence)
      (same_parts (earned question answer) value) (same_parts (given_up question answer) value)
      (earned question answer) (given_up question answer) is in
      record {
        plan = all.plan_passed;
        defence = all.defence_passed;
        least = value_met question valid (least question answer.plan) answer.plan.den (plan_den all.plan_passed) answer
            all.least_same;
        most = value_met question valid (most question answer.defence) answer.defence.den
            (defence_den all.defence_passed)
            answer all.most_same;
      }

  met_valid : IsMet question answer → verdict_of question answer ≡ Valid
  met_valid is =
      told_valid question answer is.plan is.defence
      (met_value question valid (least question answer.plan) answer.plan.den (plan_den is.plan) answer is.least)
      (met_value question valid (most question answer.defence) answer.defence.den (defence_den is.defence) answer
      is.most)

  -- what is told of a fraction, test by test
  told_by_most : (b : Bool) → IsProperDefence question answer.defence
      → IsTold question answer (if b then Valid else Most (given_up question answer))
  told_by_most true held = tt
  told_by_most false held =
      value_exact question valid (most question answer.defence) answer.defence.den (defence_den held)

  told_by_least : (b : Bool) → IsProperPlan question answer.plan → IsProperDefence question answer.defence
      → IsTold question answer
      (if b then unless_other answer (given_up question answer) Most Valid else Least (earned question answer))
  told_by_least true proper held =
      told_by_most (same_parts (given_up question answer) (parts_of answer.value)) held
  told_by_least false proper held =
      value_exact question valid (least question answer.plan) answer.plan.den (plan_den proper)

  told_by_defence : (r : Result ⊤ PlanFault) → defence_verdict question answer.defence ≡ r
      → IsProperPlan question answer.plan
      → IsTold question answer (unless_fault r Defence (found_met question answer))
  told_by_defence (Err fault) is proper = tt
  told_by_defence (Ok one) is proper =
      told_by_least (same_parts (earned question answer) (parts_of answer.value)) proper is

  told_by_plan : (r : Result ⊤ PlanFault) → plan_verdict question answer.plan ≡ r
      → IsTold question answer
      (unless_fault r Plan (unless_fault (defence_verdict question answer.defence) Defence (found_met question answer)))
  told_by_plan (Err fault) is = tt
  told_by_plan (Ok one) is = told_by_defence (defence_verdict question answer.defence) refl is

pub valid_is_met : ValidIsMet
valid_is_met question answer valid = (met question answer valid, met_valid question answer valid)

pub found_are_exact : FoundAreExact
unfolding verdict_of
found_are_exact question answer valid = told_by_plan question answer valid (plan_verdict question answer.plan) refl
