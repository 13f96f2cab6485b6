use Rattle.suit_simplex.proofs.DenseRuns.{IsKeptRun}
use Rattle.suit_simplex.proofs.solving.plain.Given as goal

abbrev pub invariant-loop-made : goal.invariant-loop-made
invariant-loop-made l = IsKeptRun l.program l.fn.pivots l.tableau l.made
