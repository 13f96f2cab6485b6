use Rattle.suit_linear_fast.proofs.ObjectiveSteps.{IsCombinedBelow}
use Rattle.suit_linear_fast.proofs.objective.clear_objective.Given as goal

abbrev pub invariant-loop-index : goal.invariant-loop-index
invariant-loop-index l = IsCombinedBelow l.factors.own l.factors.times l.fn.objective l.leaver l.index l.objective
