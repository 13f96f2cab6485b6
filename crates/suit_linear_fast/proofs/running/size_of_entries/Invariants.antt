use Rattle.suit_linear_fast.proofs.FastRuns.{IsSizeBelow}
use Rattle.suit_linear_fast.proofs.running.size_of_entries.Given as goal

abbrev pub invariant-loop-index : goal.invariant-loop-index
invariant-loop-index l = IsSizeBelow l.entries l.index l.size
