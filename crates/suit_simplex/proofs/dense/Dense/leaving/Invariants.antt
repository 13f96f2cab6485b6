use Rattle.suit_simplex.proofs.RatioTestByIndex.{IsBestBefore}
use Rattle.suit_simplex.proofs.dense.Dense.leaving.Given as goal

abbrev pub invariant-loop-index : goal.invariant-loop-index
invariant-loop-index l = IsBestBefore l.self l.column l.best l.index
