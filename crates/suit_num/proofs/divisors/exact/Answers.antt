use Rattle.std.proofs.Common.{ap, ◌∙◌}
use Rattle.std.specs.Prelude.{ℤ, ◌*ℤ◌}
use Rattle.std.specs.Int.{w128}
use Rattle.std.proofs.lemmas.Int.{quot_is, quot_fits}
use Rattle.suit_num.proofs.IntegerLaws.{div-mul}
use Rattle.suit_num.proofs.divisors.exact.Goals as goal

pub returns : goal.returns
returns c =
    ap (λ (z : ℤ). z *ℤ c.args.divisor)
    (quot_is w128 _ _ c.ranges.a c.ranges.divisor (quot_fits w128 _ _ c.ranges.a c.requires.positive))
    ∙ div-mul _ _ c.requires.divides
