use Rattle.suit_linear_fast.proofs.RatioTestOnLines.{IsKeptBest}
use Rattle.suit_linear_fast.proofs.lines.leaving.Given as goal

abbrev pub invariant-loop-index : goal.invariant-loop-index
invariant-loop-index l = IsKeptBest l.lines l.entries l.index l.best
