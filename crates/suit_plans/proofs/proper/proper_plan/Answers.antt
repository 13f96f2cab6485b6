use Rattle.std.proofs.Common.{◌∙◌, ◌&&◌, ◌^◌, [], Bool, Some, SFits, int_le, ap, pos, rules, take, ℤ}
use Rattle.std.proofs.lemmas.Int.{to_z-of_z}
use Rattle.std.specs.Int.{w128}
use Rattle.suit_plans.specs.Orders.{plan_row_before}
use Rattle.suit_plans.specs.Properness.{first_fault, plan_row_fault, plan_verdict}
use Rattle.suit_plans.proofs.ProperPlans.{told_order}
use Rattle.suit_plans.proofs.RowsBeforeTell.{IsRowOrder-histories, faultless_in_order}
use Rattle.suit_plans.proofs.FirstFaultOfRows.{den_first, none_first, none_last, none_next, rows_tell, seen_row}
use Rattle.suit_plans.proofs.proper.proper_plan.Goals as goal
use Rattle.suit_plans.specs.declared.plan.TheConstants.{MOST_DEN}

abbrev is_within : ℤ → Bool
is_within den = int_le (pos 1) den && int_le den (MOST_DEN)

pub returns-then-not-is_den : goal.returns-then-not-is_den
unfolding plan_verdict
returns-then-not-is_den c =
    let fits : SFits w128 c.args.plan.now.den = search rules in
    den_first c.args.plan.now.den _ (c.if-not-is_den.ensures ∙ ap is_within (to_z-of_z w128 c.args.plan.now.den fits))

pub loop-index-init : goal.loop-index-init
loop-index-init c = none_first (plan_row_fault c.args.question.now c.args.plan.now.den) c.items-rows.result.now

pub plan_row_fault-fault-requires-clause-order : goal.plan_row_fault-fault-requires-clause-order
plan_row_fault-fault-requires-clause-order c =
    faultless_in_order plan_row_before (plan_row_fault c.args.question.now c.args.plan.now.den)
    (take c.loop-index.index c.items-rows.result.now) IsRowOrder-histories
    (told_order c.args.question.now c.args.plan.now.den) c.loop-index.invariant.faultless

pub returns-in-Some : goal.returns-in-Some
unfolding plan_verdict
returns-in-Some c =
    let den = c.args.plan.now.den in
    let fits : SFits w128 den = search rules in
    let fault = plan_row_fault c.args.question.now den in
    let rows = c.items-rows.result.now in
    let told = c.in-Some.ensures ∙ ap
    (λ (d : ℤ). plan_row_fault c.args.question.now d (take c.loop-index.index rows) c.index-rows-index.result)
    (to_z-of_z w128 den fits) in
    seen_row fault rows c.loop-index.index c.index-rows-index.result (Some c.in-Some.kind) c.loop-index-test.true
    c.loop-index.invariant
    (told ∙ ap (fault (take c.loop-index.index rows)) c.index-rows-index.is)
    ∙ ap (first_fault fault []) c.items-rows.ensures.value
    ∙ rows_tell den (first_fault fault [] c.args.plan.now.rows) (c.if-not-is_den.ensures
    ∙ ap is_within (to_z-of_z w128 den fits))

pub loop-index-preserved : goal.loop-index-preserved
loop-index-preserved c =
    let den = c.args.plan.now.den in
    let fits : SFits w128 den = search rules in
    let fault = plan_row_fault c.args.question.now den in
    let rows = c.items-rows.result.now in
    let told = c.in_default.ensures
    ∙ ap (λ (d : ℤ). plan_row_fault c.args.question.now d (take c.loop-index.index rows)
    c.index-rows-index.result) (to_z-of_z w128 den fits) in
    none_next fault rows c.loop-index.index c.index-rows-index.result c.loop-index-test.true c.loop-index.invariant
    (told ∙ ap (fault (take c.loop-index.index rows)) c.index-rows-index.is)

pub returns : goal.returns
unfolding plan_verdict
returns c =
    let den = c.args.plan.now.den in
    let fits : SFits w128 den = search rules in
    let fault = plan_row_fault c.args.question.now den in
    none_last fault c.items-rows.result.now c.loop-index.index c.loop-index-test.false c.loop-index.invariant
    ∙ ap (first_fault fault []) c.items-rows.ensures.value
    ∙ rows_tell den (first_fault fault [] c.args.plan.now.rows) (c.if-not-is_den.ensures
    ∙ ap is_within (to_z-of_z w128 den fits))
