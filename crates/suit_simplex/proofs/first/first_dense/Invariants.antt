use Rattle.suit_simplex.proofs.FirstNumbers.{IsBegun}
use Rattle.suit_simplex.proofs.first.first_dense.Given as goal

abbrev pub invariant-loop-index : goal.invariant-loop-index
invariant-loop-index l = IsBegun l.program l.numbers.items l.basics.items l.index
