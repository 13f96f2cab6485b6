use Rattle.suit_linear_fast.proofs.Readings.{no_values, value_more}
use Rattle.suit_linear_fast.proofs.reading.read_point.Goals as goal

pub loop-column-init : goal.loop-column-init
loop-column-init c = rw c.in_ok-point.ensures.items (no_values c.args.lines.now)

pub loop-column-preserved : goal.loop-column-preserved
loop-column-preserved c = rw c.in_ok-push.ensures.items
    (value_more c.args.lines.now c.loop-column.column c.loop-column.point.items c.in-Some.part c.loop-column.invariant
    (rw c.in-Some.is at c.column_value.ensures))
