use Rattle.std.proofs.Common.{◌^◌}
use Rattle.suit_lines.proofs.LongDivision.{Divides}
use Rattle.suit_lines.proofs.value.quotient.Given as goal

abbrev pub invariant-loop-digit : goal.invariant-loop-digit
invariant-loop-digit l = Divides l.num l.den (10 ^ l._digit) l.whole l.rest
