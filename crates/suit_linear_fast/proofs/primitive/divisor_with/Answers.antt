use Rattle.std.specs.Prelude.{FitsSigned, ◌≡◌, pos}
use Rattle.std.specs.Int.{w128}
use Rattle.std.proofs.lemmas.Int.{to_z-of_z}
use Rattle.suit_linear.proofs.CommonDivisors.{gcd_with_zero, zero_bits}
use Rattle.suit_linear_fast.proofs.primitive.divisor_with.Goals as goal

pub returns-then-number-eq0 : goal.returns-then-number-eq0
returns-then-number-eq0 c =
    let divisor_fits : FitsSigned w128 c.args.divisor = c.ranges.divisor in
    let none : c.args.number ≡ pos 0 = zero_bits c.args.number c.ranges.number c.if-number-eq0.true in
    simp to_z-of_z (rw none (gcd_with_zero c.args.divisor c.requires.not_negative))
