use Rattle.suit_linear_fast.proofs.ClaimSums.{RowsSummed}
use Rattle.suit_linear_fast.proofs.claims.sum_rows.Given as goal

abbrev pub invariant-loop-index : goal.invariant-loop-index
invariant-loop-index l = RowsSummed l.sparse l.numbers
