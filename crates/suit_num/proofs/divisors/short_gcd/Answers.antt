use Rattle.suit_num.proofs.OddParts.{gcd_of_zero, gcd_of_rest, gcd_of_multiple}
use Rattle.suit_num.proofs.divisors.short_gcd.Goals as goal

pub returns-then-small-eq0 : goal.returns-then-small-eq0
returns-then-small-eq0 c = gcd_of_zero _ _ _ _ c.min-small.ensures c.max-large.ensures c.if-small-eq0.true

pub returns-then-rest-eq0 : goal.returns-then-rest-eq0
returns-then-rest-eq0 c = gcd_of_multiple _ _ _ _ c.min-small.ensures c.max-large.ensures c.if-rest-eq0.true

pub returns : goal.returns
returns c = gcd_of_rest _ _ _ _ _ c.min-small.ensures c.max-large.ensures c.halving_gcd.ensures
