use Rattle.suit_linear_fast.proofs.Readings.{NoneBelow}
use Rattle.suit_linear_fast.proofs.reading.column_value.Given as goal

abbrev pub invariant-loop-index : goal.invariant-loop-index
invariant-loop-index l = NoneBelow l.lines l.column l.index
