use Rattle.std.proofs.Common.{rules, arith}
use Rattle.std.specs.Prelude.{pos, FitsSigned, ◌<ℤ◌, int_div}
use Rattle.std.specs.Int.{w64}
use Rattle.std.proofs.lemmas.Int.{ints, to_z-of_z, quot_fits}
use Rattle.suit_linear.specs.Points.{number_at}
use Rattle.suit_linear_fast.proofs.Contents.{quotient_more, none_divided}
use Rattle.suit_linear_fast.proofs.pivot.guess_leaver.Goals as goal

pub loop-weight-preserved : goal.loop-weight-preserved
loop-weight-preserved c =
    let divisor_fits : FitsSigned w64 c.content-divisor.result = search rules in
    let positive : pos 0 <ℤ c.content-divisor.result = omega (arith, ints) in
    let number_fits : FitsSigned w64 (number_at c.loop-weight.weights c.loop-weight.weight-index) = search rules in
    let quotient_fits : FitsSigned w64
    (int_div (number_at c.loop-weight.weights c.loop-weight.weight-index) c.content-divisor.result) =
    quot_fits w64 _ _ number_fits positive in
    simp to_z-of_z (quotient_more c.guess_row.new.weights c.content-divisor.result c.loop-weight.weight-index
    c.loop-weight.weights c.content-divisor.ensures (omega arith) (simp to_z-of_z at c.loop-weight.invariant))

pub returns-else-divisor-gt1 : goal.returns-else-divisor-gt1
returns-else-divisor-gt1 c =
    let divisor_fits : FitsSigned w64 c.content-divisor.result = search rules in
    let low = c.if-divisor-gt1.false in
    simp to_z-of_z (none_divided c.args.past.now c.args.row c.guess_row.new.weights
    c.content-divisor.result c.guess_row.ensures c.content-divisor.ensures
    (omega (arith, ints)))
