use Rattle.suit_linear_fast.proofs.Contents.{IsContentBelow}
use Rattle.suit_linear_fast.proofs.objective.content.Given as goal

abbrev pub invariant-loop-number : goal.invariant-loop-number
invariant-loop-number l = IsContentBelow l.numbers l.divisor l.number-index
