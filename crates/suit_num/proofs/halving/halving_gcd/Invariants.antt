use Rattle.std.proofs.Common.{◌+◌}
use Rattle.suit_num.proofs.OddParts.{Halves}
use Rattle.suit_num.proofs.halving.halving_gcd.Given as goal

abbrev pub invariant-loop-x : goal.invariant-loop-x
invariant-loop-x l = Halves l.fn.a l.fn.b l.x l.y l.twos

abbrev pub decreases-loop-x : goal.decreases-loop-x
decreases-loop-x l = l.x + l.y
