use Rattle.std.proofs.Common.{arith, rules}
use Rattle.std.specs.Prelude.{pos, get_or, FitsSigned}
use Rattle.std.specs.Int.{w64}
use Rattle.std.proofs.lemmas.Int.{to_z-of_z}
use Rattle.std.proofs.lemmas.Option.{IfSome_then}
use Rattle.suit_linear_fast.specs.declared.lines.Line.{Line}
use Rattle.suit_linear_fast.proofs.Readings.{none_yet, none_more, value_found, value_none, zero_value}
use Rattle.suit_linear_fast.proofs.reading.column_value.Goals as goal

pub loop-index-init : goal.loop-index-init
loop-index-init c = none_yet _ _

pub loop-index-preserved : goal.loop-index-preserved
loop-index-preserved c = none_more c.args.lines.now c.args.column c.loop-index.index
    (record { basic = 0; own = pos 0; bound = pos 0; size = 0 }) c.if-lines-index.false c.loop-index.invariant

pub returns-then-lines-index : goal.returns-then-lines-index
returns-then-lines-index c =
    let other : Line = record { basic = 0; own = pos 0; bound = pos 0; size = 0 } in
    let line : Line = get_or c.args.lines.now c.loop-index.index other in
    let own_fits : FitsSigned w64 line.own = search rules in
    let bound_fits : FitsSigned w64 line.bound = search rules in
    IfSome_then c.line_value.result (simp to_z-of_z at c.line_value.ensures)
    (λ part is. value_found c.args.lines.now c.args.column c.loop-index.index other part c.loop-index-test.true
    c.if-lines-index.true is)

pub returns : goal.returns
returns c = value_none c.args.lines.now c.args.column c.loop-index.index c.reduced.result (omega arith)
    c.loop-index.invariant (zero_value c.reduced.result.num c.reduced.result.den c.reduced.ensures.value)
