use Rattle.suit_simplex.proofs.BasicRows.{IsReadBelow}
use Rattle.suit_simplex.proofs.reading.read_point.Given as goal

abbrev pub invariant-loop-column : goal.invariant-loop-column
invariant-loop-column l = IsReadBelow l.dense l.point.items l.column
