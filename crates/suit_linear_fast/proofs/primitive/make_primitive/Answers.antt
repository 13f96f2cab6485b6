use Rattle.std.proofs.Common.{rules, arith, ◌≡◌}
use Rattle.std.specs.Prelude.{FitsSigned, pos, ◌<ℤ◌}
use Rattle.std.specs.Int.{w128}
use Rattle.std.proofs.lemmas.Int.{ints, to_z-of_z}
use Rattle.suit_linear.specs.Points.{number_at}
use Rattle.suit_linear.proofs.CommonDivisors.{primitive_same, one_divided, all_divided, narrow_primitive, one_bits}
use Rattle.suit_linear.specs.Pivots.{primitive}
use Rattle.suit_linear_fast.proofs.primitive.make_primitive.Goals as goal

pub returns-then-divisor-eq1-clause-value : goal.returns-then-divisor-eq1-clause-value
returns-then-divisor-eq1-clause-value c =
    let fits : FitsSigned w128 c.common_divisor-divisor.result = search rules in
    primitive_same c.args.numbers.now c.common_divisor-divisor.result (one_bits _ fits c.if-divisor-eq1.true)
    c.common_divisor-divisor.ensures

pub loop-number-preserved : goal.loop-number-preserved
loop-number-preserved c =
    let divisor_fits : FitsSigned w128 c.common_divisor-divisor.result = search rules in
    let number_fits : FitsSigned w128 (number_at c.loop-number.numbers c.loop-number.number-index) = search rules in
    let positive : pos 0 <ℤ c.common_divisor-divisor.result =
    rw c.common_divisor-divisor.ensures (omega (arith, ints, c.requires.some)) in
    let quotient_fits : FitsSigned w128 c.quotient.result = search rules in
    simp to_z-of_z (one_divided c.args.numbers.now c.common_divisor-divisor.result c.loop-number.numbers
    c.loop-number.number-index c.quotient.result (omega arith) (simp to_z-of_z at c.loop-number.invariant)
    (simp to_z-of_z at c.quotient.ensures))

pub quotient-requires : goal.quotient-requires
quotient-requires c =
    let divisor_fits : FitsSigned w128 c.common_divisor-divisor.result = search rules in
    rw c.common_divisor-divisor.ensures (omega (arith, ints, c.requires.some))

pub returns-clause-value : goal.returns-clause-value
returns-clause-value c =
    let divisor_fits : FitsSigned w128 c.common_divisor-divisor.result = search rules in
    all_divided c.args.numbers.now c.common_divisor-divisor.result c.loop-number.numbers c.loop-number.number-index
    c.loop-number.auto.numbers (omega arith) (simp to_z-of_z at c.loop-number.invariant)
    c.common_divisor-divisor.ensures

pub returns-clause-narrow : goal.returns-clause-narrow
returns-clause-narrow c =
    let divisor_fits : FitsSigned w128 c.common_divisor-divisor.result = search rules in
    let value : c.loop-number.numbers ≡ primitive c.args.numbers.now =
    all_divided c.args.numbers.now c.common_divisor-divisor.result c.loop-number.numbers c.loop-number.number-index
    c.loop-number.auto.numbers (omega arith) (simp to_z-of_z at c.loop-number.invariant)
    c.common_divisor-divisor.ensures in
    rw value (narrow_primitive c.args.numbers.now c.requires.some c.requires.narrow)
