use Rattle.suit_linear.proofs.CommonDivisors.{IsDivisorBelow}
use Rattle.suit_linear_fast.proofs.primitive.common_divisor.Given as goal

abbrev pub invariant-loop-number : goal.invariant-loop-number
invariant-loop-number l = IsDivisorBelow l.numbers l.divisor l.number-index
