use Rattle.std.proofs.Common.{take, map}
use Rattle.std.specs.Prelude.{neg_ℤ}
use Rattle.suit_simplex.proofs.FirstNumbers.{IsWritten}
use Rattle.suit_simplex.proofs.first.push_negated.Given as goal

abbrev pub invariant-loop-cost : goal.invariant-loop-cost
invariant-loop-cost l = IsWritten l.fn.numbers.items l.numbers.items (map neg_ℤ (take l.cost-index l.costs))
