use Rattle.suit_linear_fast.proofs.Readings.{AreValues}
use Rattle.suit_linear_fast.proofs.reading.read_point.Given as goal

abbrev pub invariant-loop-column : goal.invariant-loop-column
invariant-loop-column l = AreValues l.lines l.column l.point.items
