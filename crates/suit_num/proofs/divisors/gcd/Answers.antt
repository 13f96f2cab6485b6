use Rattle.std.proofs.Common.{refl}
use Rattle.std.specs.Prelude.{FitsSigned, unsigned_abs}
use Rattle.std.specs.Int.{w128, IsGcd}
use Rattle.std.proofs.lemmas.Int.{to_z-of_z}
use Rattle.suit_num.proofs.OddParts.{gcd_same}
use Rattle.suit_num.proofs.SignedDivisors.{gcd_bounds, signed_gcd}
use Rattle.suit_num.proofs.divisors.gcd.Goals as goal

pub overflow_cast-result : goal.overflow_cast-result
overflow_cast-result c =
    let a_fits : FitsSigned w128 c.args.a = c.ranges.a in
    let b_fits : FitsSigned w128 c.args.b = c.ranges.b in
    let is : IsGcd (unsigned_abs c.args.a) (unsigned_abs c.args.b) c.wide_gcd.result =
    gcd_same _ _ _ _ _ _ (simp to_z-of_z at c.unsigned_abs.ensures.value)
    (simp to_z-of_z at c.unsigned_abs-2.ensures.value) refl c.wide_gcd.ensures in
    record { sfits = (gcd_bounds c.args.a c.args.b _ c.requires.some c.requires.narrow_a c.requires.narrow_b is).1 }

pub returns : goal.returns
returns c =
    let a_fits : FitsSigned w128 c.args.a = c.ranges.a in
    let b_fits : FitsSigned w128 c.args.b = c.ranges.b in
    let is : IsGcd (unsigned_abs c.args.a) (unsigned_abs c.args.b) c.wide_gcd.result =
    gcd_same _ _ _ _ _ _ (simp to_z-of_z at c.unsigned_abs.ensures.value)
    (simp to_z-of_z at c.unsigned_abs-2.ensures.value) refl c.wide_gcd.ensures in
    let all = signed_gcd c.args.a c.args.b _ c.requires.some c.requires.narrow_a c.requires.narrow_b is in
    record { greatest = all.greatest; value = all.value; positive = all.positive; narrow = all.narrow }
