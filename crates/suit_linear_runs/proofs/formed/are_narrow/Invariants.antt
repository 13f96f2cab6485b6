use Rattle.suit_linear_runs.proofs.WellFormedRowByRow.{AreNarrow}
use Rattle.suit_linear_runs.proofs.formed.are_narrow.Given as goal

abbrev pub invariant-loop-number : goal.invariant-loop-number
invariant-loop-number l = AreNarrow l.number-index l.numbers
