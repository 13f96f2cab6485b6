use Rattle.std.proofs.Common.{◌∙◌, ◌&&◌, ◌^◌, [], Bool, Some, SFits, int_le, ap, pos, rules, sym, take, to_z, of_z, ℤ}
use Rattle.std.proofs.lemmas.Int.{to_z-of_z}
use Rattle.std.proofs.lemmas.Bool.{and_parts}
use Rattle.std.specs.Int.{w128}
use Rattle.suit_plans.specs.Orders.{defence_row_before}
use Rattle.suit_plans.specs.Properness.{first_fault, defence_row_fault, defence_verdict}
use Rattle.suit_plans.proofs.ProperDefences.{told_order}
use Rattle.suit_plans.proofs.RowsBeforeTell.{IsRowOrder-defences, faultless_in_order}
use Rattle.suit_num.proofs.IntegerLaws.{int_le-true}
use Rattle.suit_plans.proofs.FirstFaultOfRows.{den_first, none_first, none_last, none_next, rows_tell, seen_row}
use Rattle.suit_plans.proofs.proper.proper_defence.Goals as goal
use Rattle.suit_plans.specs.declared.plan.TheConstants.{MOST_DEN}

abbrev is_within : ℤ → Bool
is_within den = int_le (pos 1) den && int_le den (MOST_DEN)

pub returns-then-not-is_den : goal.returns-then-not-is_den
unfolding defence_verdict
returns-then-not-is_den c =
    let fits : SFits w128 c.args.defence.now.den = search rules in
    den_first c.args.defence.now.den _ (c.if-not-is_den.ensures
    ∙ ap is_within (to_z-of_z w128 c.args.defence.now.den fits))

pub loop-index-init : goal.loop-index-init
loop-index-init c = none_first (defence_row_fault c.args.question.now c.args.defence.now.den) c.items-rows.result.now

pub defence_row_fault-fault-requires-clause-order : goal.defence_row_fault-fault-requires-clause-order
defence_row_fault-fault-requires-clause-order c =
    faultless_in_order defence_row_before (defence_row_fault c.args.question.now c.args.defence.now.den)
    (take c.loop-index.index c.items-rows.result.now) IsRowOrder-defences
    (told_order c.args.question.now c.args.defence.now.den) c.loop-index.invariant.faultless

pub returns-in-Some : goal.returns-in-Some
unfolding defence_verdict
returns-in-Some c =
    let den = c.args.defence.now.den in
    let fits : SFits w128 den = search rules in
    let fault = defence_row_fault c.args.question.now den in
    let rows = c.items-rows.result.now in
    let told = c.in-Some.ensures ∙ ap
    (λ (d : ℤ). defence_row_fault c.args.question.now d (take c.loop-index.index rows)
    c.index-rows-index.result) (to_z-of_z w128 den fits) in
    seen_row fault rows c.loop-index.index c.index-rows-index.result (Some c.in-Some.kind) c.loop-index-test.true
    c.loop-index.invariant
    (told ∙ ap (fault (take c.loop-index.index rows)) c.index-rows-index.is)
    ∙ ap (first_fault fault []) c.items-rows.ensures.value
    ∙ rows_tell den (first_fault fault [] c.args.defence.now.rows) (c.if-not-is_den.ensures
    ∙ ap is_within (to_z-of_z w128 den fits))

pub defence_row_fault-fault-requires-clause-den : goal.defence_row_fault-fault-requires-clause-den
defence_row_fault-fault-requires-clause-den c =
    let den = to_z w128 (of_z w128 c.args.defence.now.den) in
    let parts = and_parts (int_le (pos 1) den) (int_le den (MOST_DEN)) (sym c.if-not-is_den.ensures) in
    (int_le-true (pos 1) den parts.0, int_le-true den (MOST_DEN) parts.1)

pub loop-index-preserved : goal.loop-index-preserved
loop-index-preserved c =
    let den = c.args.defence.now.den in
    let fits : SFits w128 den = search rules in
    let fault = defence_row_fault c.args.question.now den in
    let rows = c.items-rows.result.now in
    let told = c.in_default.ensures
    ∙ ap (λ (d : ℤ). defence_row_fault c.args.question.now d (take c.loop-index.index rows)
    c.index-rows-index.result) (to_z-of_z w128 den fits) in
    none_next fault rows c.loop-index.index c.index-rows-index.result c.loop-index-test.true c.loop-index.invariant
    (told ∙ ap (fault (take c.loop-index.index rows)) c.index-rows-index.is)

pub returns : goal.returns
unfolding defence_verdict
returns c =
    let den = c.args.defence.now.den in
    let fits : SFits w128 den = search rules in
    let fault = defence_row_fault c.args.question.now den in
    none_last fault c.items-rows.result.now c.loop-index.index c.loop-index-test.false c.loop-index.invariant
    ∙ ap (first_fault fault []) c.items-rows.ensures.value
    ∙ rows_tell den (first_fault fault [] c.args.defence.now.rows) (c.if-not-is_den.ensures
    ∙ ap is_within (to_z-of_z w128 den fits))
