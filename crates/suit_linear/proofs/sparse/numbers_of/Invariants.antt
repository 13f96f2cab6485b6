use Rattle.suit_linear.proofs.SparseSums.{AreSummed}
use Rattle.suit_linear.proofs.sparse.numbers_of.Given as goal

abbrev pub invariant-loop-index : goal.invariant-loop-index
invariant-loop-index l = AreSummed l.columns l.index l.entries l.numbers.items
