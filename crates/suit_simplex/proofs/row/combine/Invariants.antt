use Rattle.suit_linear.proofs.CombinationByIndex.{IsCombinedBelow}
use Rattle.suit_simplex.proofs.row.combine.Given as goal

abbrev pub invariant-loop-index : goal.invariant-loop-index
invariant-loop-index l = IsCombinedBelow l.own l.fn.row l.other l.leaver l.row l.index
