use Rattle.std.proofs.Common.{◌≡◌}
use Rattle.suit_num.specs.Divisors.{gcd_of}
use Rattle.suit_linear_fast.proofs.lines.common_divisor.Given as goal

abbrev pub invariant-loop-y : goal.invariant-loop-y
invariant-loop-y l = gcd_of l.x l.y ≡ gcd_of l.a l.b

abbrev pub decreases-loop-y : goal.decreases-loop-y
decreases-loop-y l = l.y
