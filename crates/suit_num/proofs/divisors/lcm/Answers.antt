use Rattle.std.proofs.Common.{rules}
use Rattle.std.specs.Prelude.{FitsSigned}
use Rattle.std.specs.Int.{w128}
use Rattle.std.proofs.lemmas.Int.{to_z-of_z}
use Rattle.suit_num.proofs.SignedDivisors.{signed_lcm, some_least}
use Rattle.suit_num.proofs.divisors.lcm.Goals as goal

pub exact-requires-clause-divides : goal.exact-requires-clause-divides
exact-requires-clause-divides c =
    let a_fits : FitsSigned w128 c.args.a = c.ranges.a in
    let b_fits : FitsSigned w128 c.args.b = c.ranges.b in
    let divisor_fits : FitsSigned w128 c.gcd.result = search rules in
    simp to_z-of_z (simp to_z-of_z at c.gcd.ensures.greatest).0

pub returns : goal.returns
returns c =
    let a_fits : FitsSigned w128 c.args.a = c.ranges.a in
    let b_fits : FitsSigned w128 c.args.b = c.ranges.b in
    let divisor_fits : FitsSigned w128 c.gcd.result = search rules in
    let exact_fits : FitsSigned w128 c.exact.result = search rules in
    let is = signed_lcm c.args.a c.args.b c.gcd.result c.exact.result c.requires.positive_a c.requires.positive_b
    (simp to_z-of_z at c.gcd.ensures.greatest) c.gcd.ensures.positive (simp to_z-of_z at c.exact.ensures) in
    let product = simp to_z-of_z at c.mul.ensures in
    record { value = rw is.0 at product; least = some_least _ _ c.mul.result _ _ product is.1 }
