use Rattle.suit_linear_fast.proofs.ClaimSums.{AreSummed}
use Rattle.suit_linear_fast.proofs.claims.add_columns.Given as goal

abbrev pub invariant-loop-index : goal.invariant-loop-index
invariant-loop-index l = AreSummed l.sparse l.lines l.shares l.index l.sums
