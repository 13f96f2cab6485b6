use Rattle.std.proofs.Common.{◌≡◌}
use Rattle.suit_num.specs.Binomials.{binomial}
use Rattle.suit_num.proofs.binomials.choose.Given as goal

abbrev pub invariant-loop-chosen : goal.invariant-loop-chosen
invariant-loop-chosen l = l.ways ≡ binomial l.n l.chosen
