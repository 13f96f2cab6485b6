use Rattle.std.proofs.Common.{rules, arith, refl, ◌≡◌}
use Rattle.std.specs.Prelude.{FitsSigned, pos}
use Rattle.std.specs.Int.{w128, cast_signed}
use Rattle.std.proofs.lemmas.Int.{to_z-of_z}
use Rattle.suit_linear.specs.Points.{number_at}
use Rattle.suit_linear.proofs.CommonDivisors.{first_divisor, next_divisor, last_divisor, divisor_one}
use Rattle.suit_linear_fast.proofs.primitive.common_divisor.Goals as goal

pub loop-number-init : goal.loop-number-init
loop-number-init c =
    let first_fits : FitsSigned w128 (number_at c.args.numbers.now c.args.likely) = search rules in
    let divisor_fits : FitsSigned w128 c.abs-divisor.result = search rules in
    simp to_z-of_z (first_divisor c.args.numbers.now c.args.likely c.abs-divisor.result c.requires.narrow
    c.requires.within (simp to_z-of_z at c.abs-divisor.ensures.value))

pub loop-number-preserved : goal.loop-number-preserved
loop-number-preserved c =
    let number_fits : FitsSigned w128 (number_at c.args.numbers.now c.loop-number.number-index) = search rules in
    let divisor_fits : FitsSigned w128 c.divisor_with-divisor.result = search rules in
    let was_fits : FitsSigned w128 (cast_signed w128 c.loop-number.divisor-bits) = search rules in
    simp to_z-of_z (next_divisor c.args.numbers.now (cast_signed w128 c.loop-number.divisor-bits)
    (number_at c.args.numbers.now c.loop-number.number-index) c.divisor_with-divisor.result
    c.loop-number.number-index c.requires.narrow (omega arith) c.loop-number.invariant refl
    (simp to_z-of_z at c.divisor_with-divisor.ensures))

pub returns-after-loop-number : goal.returns-after-loop-number
returns-after-loop-number c =
    last_divisor c.args.numbers.now (cast_signed w128 c.loop-number.divisor-bits) c.loop-number.number-index
    (omega arith) c.loop-number.invariant

pub returns-then-divisor-eq1 : goal.returns-then-divisor-eq1
returns-then-divisor-eq1 c =
    let e : cast_signed w128 c.loop-number.divisor-bits ≡ pos 1 = rw c.if-divisor-eq1.true refl in
    divisor_one c.args.numbers.now (cast_signed w128 c.loop-number.divisor-bits) c.loop-number.number-index e
    c.loop-number.invariant
