use Rattle.suit_linear.specs.Sparse.{dense}
use Rattle.suit_linear_fast.proofs.FastRuns.{IsRun}
use Rattle.suit_linear_fast.proofs.running.fast.Given as goal

abbrev pub invariant-loop-made : goal.invariant-loop-made
invariant-loop-made l = IsRun (dense l.program) l.fn.pivots l.made l.lines.items l.objective.items
