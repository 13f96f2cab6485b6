use Rattle.suit_linear.proofs.CommonDivisors.{IsDividedBelow}
use Rattle.suit_linear_fast.proofs.primitive.make_primitive.Given as goal

abbrev pub invariant-loop-number : goal.invariant-loop-number
invariant-loop-number l = IsDividedBelow l.fn.numbers l.divisor l.numbers l.number-index
