use Rattle.std.proofs.Common.{rules, ◌≡◌, ℤ, pos, ◌≤ℤ◌, ◌<ℤ◌, ◌*ℤ◌, to_z, of_z, FitsSigned, List, sym, ap, ◌∙◌, subst}
use Rattle.std.specs.Int.{w128}
use Rattle.std.proofs.lemmas.Int.{to_z-of_z}
use Rattle.suit_num.proofs.IntegerLaws.{int_le-true}
use Rattle.suit_game.specs.Layouts.{total}
use Rattle.suit_plans.proofs.RepliesAreBounded.{leasts_bounded, mosts_bounded}
use Rattle.suit_plans.proofs.ProperDefences.{proper_defence}
use Rattle.suit_plans.proofs.ProperPlans.{proper_plan}
use Rattle.suit_plans.specs.BestReplies.{least, least_reply, most}
use Rattle.suit_plans.specs.declared.moves.DeclarerMove.{DeclarerMove}
use Rattle.suit_plans.specs.declared.moves.DefenceMove.{DefenceMove}
use Rattle.suit_plans.specs.declared.plan.TheConstants.{MOST_DEN, WORTH_BOUND}
use Rattle.suit_reply.specs.AgainstDefence.{IsDefenceFor}
use Rattle.suit_reply.specs.AgainstPlan.{IsPlanFor}
use Rattle.suit_answer.specs.Reduced.{fraction}
use Rattle.suit_solve.specs.Rounds.{Apart}
use Rattle.suit_solve.proofs.HowARoundEnds.{compared_apart, compared_met}
use Rattle.suit_solve.proofs.round.compare.Goals as goal

pub value_over-value-requires-clause-number : goal.value_over-value-requires-clause-number
value_over-value-requires-clause-number c =
    let question = c.args.question.now in
    let fits : FitsSigned w128 c.in_ok-earned.earned = search rules in
    let earns : to_z w128 (of_z w128 c.in_ok-earned.earned) ≡ least question c.args.plan =
    to_z-of_z w128 c.in_ok-earned.earned fits
    ∙ c.in_ok-earned.ensures.number
    (record { question = question; valid = c.requires.valid; grown = c.requires.grown; proper = c.requires.plan }) in
    subst (λ (z : ℤ). (pos 0 ≤ℤ z) × (z <ℤ WORTH_BOUND)) (sym earns)
    (leasts_bounded question c.args.plan c.requires.valid c.requires.plan)

pub value_over-value-requires-clause-den : goal.value_over-value-requires-clause-den
value_over-value-requires-clause-den c =
    let fits : FitsSigned w128 c.args.plan.den = search rules in
    let parts = proper_plan c.args.question.now c.args.plan c.requires.plan in
    subst (λ (z : ℤ). (pos 1 ≤ℤ z) × (z ≤ℤ MOST_DEN)) (sym (to_z-of_z w128 c.args.plan.den fits))
    (int_le-true (pos 1) c.args.plan.den parts.0, int_le-true c.args.plan.den MOST_DEN parts.1)

pub value_over-requires-clause-number : goal.value_over-requires-clause-number
value_over-requires-clause-number c =
    let question = c.args.question.now in
    let fits : FitsSigned w128 c.in_ok-allowed.allowed = search rules in
    let allows : to_z w128 (of_z w128 c.in_ok-allowed.allowed) ≡ most question c.args.defence =
    to_z-of_z w128 c.in_ok-allowed.allowed fits
    ∙ c.in_ok-allowed.ensures.number
    (record { question = question; valid = c.requires.valid; grown = c.requires.grown; proper = c.requires.defence }) in
    subst (λ (z : ℤ). (pos 0 ≤ℤ z) × (z <ℤ WORTH_BOUND)) (sym allows)
    (mosts_bounded question c.args.defence c.requires.valid c.requires.defence)

pub value_over-requires-clause-den : goal.value_over-requires-clause-den
value_over-requires-clause-den c =
    let fits : FitsSigned w128 c.args.defence.den = search rules in
    let parts = proper_defence c.args.question.now c.args.defence c.requires.defence in
    subst (λ (z : ℤ). (pos 1 ≤ℤ z) × (z ≤ℤ MOST_DEN)) (sym (to_z-of_z w128 c.args.defence.den fits))
    (int_le-true (pos 1) c.args.defence.den parts.0, int_le-true c.args.defence.den MOST_DEN parts.1)

pub returns-then-eq : goal.returns-then-eq
returns-then-eq c =
    let question = c.args.question.now in
    let weight : ℤ = pos (total question) in
    let earned_fits : FitsSigned w128 c.in_ok-earned.earned = search rules in
    let allowed_fits : FitsSigned w128 c.in_ok-allowed.allowed = search rules in
    let plan_fits : FitsSigned w128 c.args.plan.den = search rules in
    let defence_fits : FitsSigned w128 c.args.defence.den = search rules in
    let plan_for : IsPlanFor c.args.tree.now c.args.plan = record {
      question = question;
      valid = c.requires.valid;
      grown = c.requires.grown;
      proper = c.requires.plan;
    } in
    let defence_for : IsDefenceFor c.args.tree.now c.args.defence = record {
      question = question;
      valid = c.requires.valid;
      grown = c.requires.grown;
      proper = c.requires.defence;
    } in
    let value_is : c.value_over-value.result ≡ fraction c.in_ok-earned.earned (c.args.plan.den *ℤ weight) =
    c.value_over-value.ensures
    ∙ ap (λ (z : ℤ). fraction z (to_z w128 (of_z w128 c.args.plan.den) *ℤ weight))
    (to_z-of_z w128 c.in_ok-earned.earned earned_fits)
    ∙ ap (λ (z : ℤ). fraction c.in_ok-earned.earned (z *ℤ weight)) (to_z-of_z w128 c.args.plan.den plan_fits) in
    let other_is : c.value_over.result ≡ fraction c.in_ok-allowed.allowed (c.args.defence.den *ℤ weight) =
    c.value_over.ensures
    ∙ ap (λ (z : ℤ). fraction z (to_z w128 (of_z w128 c.args.defence.den) *ℤ weight))
    (to_z-of_z w128 c.in_ok-allowed.allowed allowed_fits)
    ∙ ap (λ (z : ℤ). fraction c.in_ok-allowed.allowed (z *ℤ weight))
    (to_z-of_z w128 c.args.defence.den defence_fits) in
    compared_met question c.args.plan c.args.defence c.requires.valid c.requires.plan c.requires.defence
    c.value_over-value.result c.value_over.result c.in_ok-earned.earned c.in_ok-allowed.allowed
    (c.in_ok-earned.ensures.number plan_for) (c.in_ok-allowed.ensures.number defence_for) value_is other_is
    (sym c.eq.ensures ∙ c.if-eq.true)

pub returns : goal.returns
returns c =
    let question = c.args.question.now in
    let weight : ℤ = pos (total question) in
    let earned_fits : FitsSigned w128 c.in_ok-earned.earned = search rules in
    let allowed_fits : FitsSigned w128 c.in_ok-allowed.allowed = search rules in
    let plan_fits : FitsSigned w128 c.args.plan.den = search rules in
    let defence_fits : FitsSigned w128 c.args.defence.den = search rules in
    let plan_for : IsPlanFor c.args.tree.now c.args.plan = record {
      question = question;
      valid = c.requires.valid;
      grown = c.requires.grown;
      proper = c.requires.plan;
    } in
    let defence_for : IsDefenceFor c.args.tree.now c.args.defence = record {
      question = question;
      valid = c.requires.valid;
      grown = c.requires.grown;
      proper = c.requires.defence;
    } in
    let value_is : c.value_over-value.result ≡ fraction c.in_ok-earned.earned (c.args.plan.den *ℤ weight) =
    c.value_over-value.ensures
    ∙ ap (λ (z : ℤ). fraction z (to_z w128 (of_z w128 c.args.plan.den) *ℤ weight))
    (to_z-of_z w128 c.in_ok-earned.earned earned_fits)
    ∙ ap (λ (z : ℤ). fraction c.in_ok-earned.earned (z *ℤ weight)) (to_z-of_z w128 c.args.plan.den plan_fits) in
    let other_is : c.value_over.result ≡ fraction c.in_ok-allowed.allowed (c.args.defence.den *ℤ weight) =
    c.value_over.ensures
    ∙ ap (λ (z : ℤ). fraction z (to_z w128 (of_z w128 c.args.defence.den) *ℤ weight))
    (to_z-of_z w128 c.in_ok-allowed.allowed allowed_fits)
    ∙ ap (λ (z : ℤ). fraction c.in_ok-allowed.allowed (z *ℤ weight))
    (to_z-of_z w128 c.args.defence.den defence_fits) in
    compared_apart question c.args.plan c.args.defence c.requires.valid c.requires.plan c.requires.defence
    c.value_over-value.result c.value_over.result c.in_ok-earned.earned c.in_ok-allowed.allowed
    (c.in_ok-earned.ensures.number plan_for) (c.in_ok-allowed.ensures.number defence_for) value_is other_is
    (sym c.eq.ensures ∙ c.if-eq.false)
    ∙ ap (λ (own : List DeclarerMove). Apart own (least_reply question c.args.plan))
    (sym (c.in_ok-allowed.ensures.reply defence_for))
    ∙ ap (λ (theirs : List DefenceMove). Apart c.in_ok-allowed.own theirs)
    (sym (c.in_ok-earned.ensures.reply plan_for))
