use Rattle.suit_linear.specs.Tableaus.{unit_numbers}
use Rattle.suit_simplex.proofs.FirstNumbers.{IsWritten}
use Rattle.suit_simplex.proofs.first.push_unit.Given as goal

abbrev pub invariant-loop-other : goal.invariant-loop-other
invariant-loop-other l = IsWritten l.fn.numbers.items l.numbers.items (unit_numbers l.other l.index)
