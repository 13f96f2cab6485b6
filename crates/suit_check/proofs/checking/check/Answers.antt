use Rattle.std.proofs.Common.{rules, ◌≡◌, ℤ, pos, ◌≤ℤ◌, ◌<ℤ◌, to_z, of_z, FitsSigned, true, false, sym, ap, ◌∙◌}
use Rattle.std.proofs.Common.{subst}
use Rattle.std.specs.Int.{w128}
use Rattle.std.proofs.lemmas.Int.{to_z-of_z}
use Rattle.suit_plans.proofs.RepliesAreBounded.{leasts_bounded, mosts_bounded}
use Rattle.suit_plans.specs.BestReplies.{least, most}
use Rattle.suit_plans.specs.Properness.{IsProperDefence, IsProperPlan}
use Rattle.suit_plans.specs.declared.plan.TheConstants.{MOST_DEN, WORTH_BOUND}
use Rattle.suit_check.specs.Verdicts.{Least, Most, parts_of, same_parts, value_of}
use Rattle.suit_check.proofs.FindingByTheFirstTest.{denied, earned, given_up, granted, told_defence, told_least}
use Rattle.suit_check.proofs.FindingByTheFirstTest.{told_most}
use Rattle.suit_check.proofs.FindingByTheFirstTest.{told_plan, told_valid}
use Rattle.suit_check.proofs.VerdictsMet.{defence_bounds, plan_bounds}
use Rattle.suit_check.proofs.checking.check.Goals as goal

pub returns-in-Err-clause-verdict : goal.returns-in-Err-clause-verdict
returns-in-Err-clause-verdict g c =
    sym (told_plan c.args.question.now c.args.answer.now c.in-Err.fault (sym c.proper_plan.ensures ∙ c.in-Err.is))

pub returns-in-Err-proper_defence-clause-verdict : goal.returns-in-Err-proper_defence-clause-verdict
returns-in-Err-proper_defence-clause-verdict g c =
    let question = c.args.question.now in
    let answer = c.args.answer.now in
    let proper : IsProperPlan question answer.plan = sym c.proper_plan.ensures ∙ c.in_default.is in
    sym (told_defence question answer c.in-Err-proper_defence.fault proper
    (sym c.proper_defence.ensures ∙ c.in-Err-proper_defence.is))

pub value_over-found-requires-clause-number : goal.value_over-found-requires-clause-number
value_over-found-requires-clause-number g c =
    let question = c.args.question.now in
    let answer = c.args.answer.now in
    let proper : IsProperPlan question answer.plan = sym c.proper_plan.ensures ∙ c.in_default.is in
    let earned_fits : FitsSigned w128 c.in_ok-earned.earned = search rules in
    let earns : to_z w128 (of_z w128 c.in_ok-earned.earned) ≡ least question answer.plan =
    to_z-of_z w128 c.in_ok-earned.earned earned_fits
    ∙ c.in_ok-earned.ensures.number
    (record { question = question; valid = c.requires; grown = c.in_ok-tree.ensures.tree; proper = proper }) in
    subst (λ (z : ℤ). (pos 0 ≤ℤ z) × (z <ℤ WORTH_BOUND)) (sym earns)
    (leasts_bounded question answer.plan c.requires proper)

pub value_over-found-requires-clause-den : goal.value_over-found-requires-clause-den
value_over-found-requires-clause-den g c =
    let question = c.args.question.now in
    let answer = c.args.answer.now in
    let proper : IsProperPlan question answer.plan = sym c.proper_plan.ensures ∙ c.in_default.is in
    let plan_den_fits : FitsSigned w128 answer.plan.den = search rules in
    let plan_den : to_z w128 (of_z w128 answer.plan.den) ≡ answer.plan.den =
    to_z-of_z w128 answer.plan.den plan_den_fits in
    subst (λ (z : ℤ). (pos 1 ≤ℤ z) × (z ≤ℤ MOST_DEN)) (sym plan_den) (plan_bounds question answer proper)

pub returns-then-ne-clause-verdict : goal.returns-then-ne-clause-verdict
returns-then-ne-clause-verdict g c =
    let question = c.args.question.now in
    let answer = c.args.answer.now in
    let proper : IsProperPlan question answer.plan = sym c.proper_plan.ensures ∙ c.in_default.is in
    let held : IsProperDefence question answer.defence =
    sym c.proper_defence.ensures ∙ c.in_default-proper_defence.is in
    let earned_fits : FitsSigned w128 c.in_ok-earned.earned = search rules in
    let earns : to_z w128 (of_z w128 c.in_ok-earned.earned) ≡ least question answer.plan =
    to_z-of_z w128 c.in_ok-earned.earned earned_fits
    ∙ c.in_ok-earned.ensures.number
    (record { question = question; valid = c.requires; grown = c.in_ok-tree.ensures.tree; proper = proper }) in
    let plan_den_fits : FitsSigned w128 answer.plan.den = search rules in
    let plan_den : to_z w128 (of_z w128 answer.plan.den) ≡ answer.plan.den =
    to_z-of_z w128 answer.plan.den plan_den_fits in
    let found : parts_of c.value_over-found.result ≡ earned question answer =
    ap parts_of c.value_over-found.ensures
    ∙ ap (λ (z : ℤ). value_of question z (to_z w128 (of_z w128 answer.plan.den))) earns
    ∙ ap (λ (z : ℤ). value_of question (least question answer.plan) z) plan_den in
    let other : same_parts (earned question answer) (parts_of answer.value) ≡ false =
    ap (λ parts. same_parts parts (parts_of answer.value)) (sym found)
    ∙ denied (same_parts (parts_of c.value_over-found.result) (parts_of answer.value)) (sym c.ne.ensures
    ∙ c.if-ne.true) in
    ap Least found ∙ sym (told_least question answer proper held other)

pub value_over-found-requires-2-clause-number : goal.value_over-found-requires-2-clause-number
value_over-found-requires-2-clause-number g c =
    let question = c.args.question.now in
    let answer = c.args.answer.now in
    let held : IsProperDefence question answer.defence =
    sym c.proper_defence.ensures ∙ c.in_default-proper_defence.is in
    let given_fits : FitsSigned w128 c.in_ok-given_up.given_up = search rules in
    let gives : to_z w128 (of_z w128 c.in_ok-given_up.given_up) ≡ most question answer.defence =
    to_z-of_z w128 c.in_ok-given_up.given_up given_fits
    ∙ c.in_ok-given_up.ensures.number
    (record { question = question; valid = c.requires; grown = c.in_ok-tree.ensures.tree; proper = held }) in
    subst (λ (z : ℤ). (pos 0 ≤ℤ z) × (z <ℤ WORTH_BOUND)) (sym gives)
    (mosts_bounded question answer.defence c.requires held)

pub value_over-found-requires-2-clause-den : goal.value_over-found-requires-2-clause-den
value_over-found-requires-2-clause-den g c =
    let question = c.args.question.now in
    let answer = c.args.answer.now in
    let held : IsProperDefence question answer.defence =
    sym c.proper_defence.ensures ∙ c.in_default-proper_defence.is in
    let defence_den_fits : FitsSigned w128 answer.defence.den = search rules in
    let defence_den : to_z w128 (of_z w128 answer.defence.den) ≡ answer.defence.den =
    to_z-of_z w128 answer.defence.den defence_den_fits in
    subst (λ (z : ℤ). (pos 1 ≤ℤ z) × (z ≤ℤ MOST_DEN)) (sym defence_den) (defence_bounds question answer held)

pub returns-then-ne-2-clause-verdict : goal.returns-then-ne-2-clause-verdict
returns-then-ne-2-clause-verdict g c =
    let question = c.args.question.now in
    let answer = c.args.answer.now in
    let proper : IsProperPlan question answer.plan = sym c.proper_plan.ensures ∙ c.in_default.is in
    let held : IsProperDefence question answer.defence =
    sym c.proper_defence.ensures ∙ c.in_default-proper_defence.is in
    let earned_fits : FitsSigned w128 c.in_ok-earned.earned = search rules in
    let earns : to_z w128 (of_z w128 c.in_ok-earned.earned) ≡ least question answer.plan =
    to_z-of_z w128 c.in_ok-earned.earned earned_fits
    ∙ c.in_ok-earned.ensures.number
    (record { question = question; valid = c.requires; grown = c.in_ok-tree.ensures.tree; proper = proper }) in
    let plan_den_fits : FitsSigned w128 answer.plan.den = search rules in
    let plan_den : to_z w128 (of_z w128 answer.plan.den) ≡ answer.plan.den =
    to_z-of_z w128 answer.plan.den plan_den_fits in
    let found : parts_of c.value_over-found.result ≡ earned question answer =
    ap parts_of c.value_over-found.ensures
    ∙ ap (λ (z : ℤ). value_of question z (to_z w128 (of_z w128 answer.plan.den))) earns
    ∙ ap (λ (z : ℤ). value_of question (least question answer.plan) z) plan_den in
    let given_fits : FitsSigned w128 c.in_ok-given_up.given_up = search rules in
    let gives : to_z w128 (of_z w128 c.in_ok-given_up.given_up) ≡ most question answer.defence =
    to_z-of_z w128 c.in_ok-given_up.given_up given_fits
    ∙ c.in_ok-given_up.ensures.number
    (record { question = question; valid = c.requires; grown = c.in_ok-tree.ensures.tree; proper = held }) in
    let defence_den_fits : FitsSigned w128 answer.defence.den = search rules in
    let defence_den : to_z w128 (of_z w128 answer.defence.den) ≡ answer.defence.den =
    to_z-of_z w128 answer.defence.den defence_den_fits in
    let also : parts_of c.value_over-found-2.result ≡ given_up question answer =
    ap parts_of c.value_over-found-2.ensures
    ∙ ap (λ (z : ℤ). value_of question z (to_z w128 (of_z w128 answer.defence.den))) gives
    ∙ ap (λ (z : ℤ). value_of question (most question answer.defence) z) defence_den in
    let same : same_parts (earned question answer) (parts_of answer.value) ≡ true =
    ap (λ parts. same_parts parts (parts_of answer.value)) (sym found)
    ∙ granted (same_parts (parts_of c.value_over-found.result) (parts_of answer.value)) (sym c.ne.ensures
    ∙ c.if-ne.false) in
    let other : same_parts (given_up question answer) (parts_of answer.value) ≡ false =
    ap (λ parts. same_parts parts (parts_of answer.value)) (sym also)
    ∙ denied (same_parts (parts_of c.value_over-found-2.result) (parts_of answer.value)) (sym c.ne-2.ensures
    ∙ c.if-ne-2.true) in
    ap Most also ∙ sym (told_most question answer proper held same other)

pub returns-clause-verdict : goal.returns-clause-verdict
returns-clause-verdict g c =
    let question = c.args.question.now in
    let answer = c.args.answer.now in
    let proper : IsProperPlan question answer.plan = sym c.proper_plan.ensures ∙ c.in_default.is in
    let held : IsProperDefence question answer.defence =
    sym c.proper_defence.ensures ∙ c.in_default-proper_defence.is in
    let earned_fits : FitsSigned w128 c.in_ok-earned.earned = search rules in
    let earns : to_z w128 (of_z w128 c.in_ok-earned.earned) ≡ least question answer.plan =
    to_z-of_z w128 c.in_ok-earned.earned earned_fits
    ∙ c.in_ok-earned.ensures.number
    (record { question = question; valid = c.requires; grown = c.in_ok-tree.ensures.tree; proper = proper }) in
    let plan_den_fits : FitsSigned w128 answer.plan.den = search rules in
    let plan_den : to_z w128 (of_z w128 answer.plan.den) ≡ answer.plan.den =
    to_z-of_z w128 answer.plan.den plan_den_fits in
    let found : parts_of c.value_over-found.result ≡ earned question answer =
    ap parts_of c.value_over-found.ensures
    ∙ ap (λ (z : ℤ). value_of question z (to_z w128 (of_z w128 answer.plan.den))) earns
    ∙ ap (λ (z : ℤ). value_of question (least question answer.plan) z) plan_den in
    let given_fits : FitsSigned w128 c.in_ok-given_up.given_up = search rules in
    let gives : to_z w128 (of_z w128 c.in_ok-given_up.given_up) ≡ most question answer.defence =
    to_z-of_z w128 c.in_ok-given_up.given_up given_fits
    ∙ c.in_ok-given_up.ensures.number
    (record { question = question; valid = c.requires; grown = c.in_ok-tree.ensures.tree; proper = held }) in
    let defence_den_fits : FitsSigned w128 answer.defence.den = search rules in
    let defence_den : to_z w128 (of_z w128 answer.defence.den) ≡ answer.defence.den =
    to_z-of_z w128 answer.defence.den defence_den_fits in
    let also : parts_of c.value_over-found-2.result ≡ given_up question answer =
    ap parts_of c.value_over-found-2.ensures
    ∙ ap (λ (z : ℤ). value_of question z (to_z w128 (of_z w128 answer.defence.den))) gives
    ∙ ap (λ (z : ℤ). value_of question (most question answer.defence) z) defence_den in
    let same : same_parts (earned question answer) (parts_of answer.value) ≡ true =
    ap (λ parts. same_parts parts (parts_of answer.value)) (sym found)
    ∙ granted (same_parts (parts_of c.value_over-found.result) (parts_of answer.value)) (sym c.ne.ensures
    ∙ c.if-ne.false) in
    let last : same_parts (given_up question answer) (parts_of answer.value) ≡ true =
    ap (λ parts. same_parts parts (parts_of answer.value)) (sym also)
    ∙ granted (same_parts (parts_of c.value_over-found-2.result) (parts_of answer.value)) (sym c.ne-2.ensures
    ∙ c.if-ne-2.false) in
    sym (told_valid question answer proper held same last)
