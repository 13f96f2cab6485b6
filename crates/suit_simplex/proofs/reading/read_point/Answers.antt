use Rattle.std.proofs.Common.{◌∙◌, arith}
use Rattle.suit_simplex.proofs.BasicRows.{nothing_read, one_read}
use Rattle.suit_simplex.proofs.reading.read_point.Goals as goal

pub loop-column-init : goal.loop-column-init
loop-column-init c = nothing_read c.args.dense.now c.in_ok-point.point.items c.in_ok-point.ensures.items

pub loop-column-preserved : goal.loop-column-preserved
loop-column-preserved c =
    one_read c.args.dense.now c.loop-column.point.items c.push.new.self.items c.loop-column.column c.column_value.result
    c.loop-column.invariant c.column_value.ensures c.in_ok-push.ensures.items

pub returns-clause-columns : goal.returns-clause-columns
returns-clause-columns c = c.loop-column.invariant.count ∙ omega arith

pub returns-clause-values : goal.returns-clause-values
returns-clause-values c = c.loop-column.invariant.values
