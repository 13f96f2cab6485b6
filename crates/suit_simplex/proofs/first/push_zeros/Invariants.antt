use Rattle.std.proofs.Common.{replicate}
use Rattle.std.specs.Prelude.{pos}
use Rattle.suit_simplex.proofs.FirstNumbers.{IsWritten}
use Rattle.suit_simplex.proofs.first.push_zeros.Given as goal

abbrev pub invariant-loop-made : goal.invariant-loop-made
invariant-loop-made l = IsWritten l.fn.numbers.items l.numbers.items (replicate l.made (pos 0))
