use Rattle.suit_num.proofs.OddParts.{gcd_of_zero, gcd_of_rest, gcd_of_multiple, gcd_same}
use Rattle.suit_num.proofs.divisors.wide_gcd.Goals as goal

pub returns-then-small-eq0 : goal.returns-then-small-eq0
returns-then-small-eq0 c = gcd_of_zero _ _ _ _ c.min-small.ensures c.max-large.ensures c.if-small-eq0.true

pub returns-then-rest-eq0 : goal.returns-then-rest-eq0
returns-then-rest-eq0 c = gcd_of_multiple _ _ _ _ c.min-small.ensures c.max-large.ensures c.if-rest-eq0.true

pub returns : goal.returns
returns c = gcd_of_rest _ _ _ _ _ c.min-small.ensures c.max-large.ensures c.wide_halving_gcd.ensures

pub returns-in-Ok-Ok : goal.returns-in-Ok-Ok
returns-in-Ok-Ok c = gcd_same _ _ _ _ _ _ c.in-Ok-Ok.ensures.1 c.in-Ok-Ok.ensures'.1 c.from.ensures c.short_gcd.ensures
