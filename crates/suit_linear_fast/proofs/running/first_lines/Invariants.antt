use Rattle.suit_linear.specs.Sparse.{dense}
use Rattle.suit_linear_fast.proofs.FastRuns.{AreFirstBelow}
use Rattle.suit_linear_fast.proofs.running.first_lines.Given as goal

abbrev pub invariant-loop-index : goal.invariant-loop-index
invariant-loop-index l = AreFirstBelow (dense l.program) l.index l.lines.items
