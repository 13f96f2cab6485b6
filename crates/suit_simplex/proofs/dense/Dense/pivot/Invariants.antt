use Rattle.suit_simplex.specs.Dense.{row_at}
use Rattle.suit_simplex.proofs.PivotSteps.{IsPivotedBelow}
use Rattle.suit_simplex.proofs.dense.Dense.pivot.Given as goal

abbrev pub invariant-loop-other : goal.invariant-loop-other
invariant-loop-other l = IsPivotedBelow l.fn.self l.self l.column (row_at l.fn.self l.index) l.other
