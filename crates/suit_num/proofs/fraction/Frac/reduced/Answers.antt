use Rattle.std.proofs.Common.{rules}
use Rattle.std.specs.Prelude.{FitsSigned}
use Rattle.std.specs.Int.{w128}
use Rattle.std.proofs.lemmas.Int.{to_z-of_z}
use Rattle.suit_num.proofs.SignedDivisors.{lowest_terms}
use Rattle.suit_num.proofs.fraction.Frac.reduced.Goals as goal

pub exact-requires-clause-divides : goal.exact-requires-clause-divides
exact-requires-clause-divides c =
    let num_fits : FitsSigned w128 c.args.num = c.ranges.num in
    let den_fits : FitsSigned w128 c.args.den = c.ranges.den in
    let divisor_fits : FitsSigned w128 c.gcd-divisor.result = search rules in
    simp to_z-of_z (simp to_z-of_z at c.gcd-divisor.ensures.greatest).0

pub exact-requires-2-clause-divides : goal.exact-requires-2-clause-divides
exact-requires-2-clause-divides c =
    let num_fits : FitsSigned w128 c.args.num = c.ranges.num in
    let den_fits : FitsSigned w128 c.args.den = c.ranges.den in
    let divisor_fits : FitsSigned w128 c.gcd-divisor.result = search rules in
    simp to_z-of_z (simp to_z-of_z at c.gcd-divisor.ensures.greatest).1

pub invariant_of-result : goal.invariant_of-result
invariant_of-result c =
    let num_fits : FitsSigned w128 c.args.num = c.ranges.num in
    let den_fits : FitsSigned w128 c.args.den = c.ranges.den in
    let divisor_fits : FitsSigned w128 c.gcd-divisor.result = search rules in
    let exact_fits : FitsSigned w128 c.exact.result = search rules in
    let exact_fits-2 : FitsSigned w128 c.exact-2.result = search rules in
    let is = lowest_terms c.args.num c.args.den c.gcd-divisor.result c.exact.result c.exact-2.result c.requires.positive
    c.requires.narrow (simp to_z-of_z at c.gcd-divisor.ensures.greatest) c.gcd-divisor.ensures.positive
    (simp to_z-of_z at c.exact.ensures) (simp to_z-of_z at c.exact-2.ensures) in
    record { positive = simp to_z-of_z is.positive; coprime = simp to_z-of_z is.coprime }

pub returns-clause-value : goal.returns-clause-value
returns-clause-value c =
    let num_fits : FitsSigned w128 c.args.num = c.ranges.num in
    let den_fits : FitsSigned w128 c.args.den = c.ranges.den in
    let divisor_fits : FitsSigned w128 c.gcd-divisor.result = search rules in
    let exact_fits : FitsSigned w128 c.exact.result = search rules in
    let exact_fits-2 : FitsSigned w128 c.exact-2.result = search rules in
    let is = lowest_terms c.args.num c.args.den c.gcd-divisor.result c.exact.result c.exact-2.result c.requires.positive
    c.requires.narrow (simp to_z-of_z at c.gcd-divisor.ensures.greatest) c.gcd-divisor.ensures.positive
    (simp to_z-of_z at c.exact.ensures) (simp to_z-of_z at c.exact-2.ensures) in
    simp to_z-of_z is.value
