use Rattle.suit_linear_fast.proofs.ObjectiveSteps.{IsShrunkBelow}
use Rattle.suit_linear_fast.proofs.objective.shrink.Given as goal

abbrev pub invariant-loop-number : goal.invariant-loop-number
invariant-loop-number l = IsShrunkBelow l.divisor l.fn.numbers l.number-index l.numbers
