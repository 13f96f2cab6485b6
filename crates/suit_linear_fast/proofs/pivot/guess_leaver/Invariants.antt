use Rattle.suit_linear_fast.proofs.ObjectiveSteps.{IsShrunkBelow}
use Rattle.suit_linear_fast.proofs.pivot.guess_leaver.Given as goal

abbrev pub invariant-loop-weight : goal.invariant-loop-weight
invariant-loop-weight l = IsShrunkBelow l.divisor l.initial.weights l.weight-index l.weights
