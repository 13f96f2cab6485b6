use Rattle.std.proofs.Common.{rules}
use Rattle.std.specs.Prelude.{FitsSigned, int_div}
use Rattle.std.specs.Int.{w128}
use Rattle.std.proofs.lemmas.Int.{to_z-of_z, quot_fits}
use Rattle.suit_linear.proofs.CommonDivisors.{shares_are}
use Rattle.suit_simplex.proofs.row.shares.Goals as goal

pub returns : goal.returns
returns c =
    let pivot_fits : FitsSigned w128 c.args.pivot = c.ranges.pivot in
    let entry_fits : FitsSigned w128 c.args.entry = c.ranges.entry in
    let divisor_fits : FitsSigned w128 c.gcd-divisor.result = search rules in
    let own_fits : FitsSigned w128 (int_div c.args.pivot c.gcd-divisor.result) =
    quot_fits w128 _ _ pivot_fits c.gcd-divisor.ensures.positive in
    let other_fits : FitsSigned w128 (int_div c.args.entry c.gcd-divisor.result) =
    quot_fits w128 _ _ entry_fits c.gcd-divisor.ensures.positive in
    let are = shares_are c.args.pivot c.args.entry c.gcd-divisor.result
    (simp to_z-of_z at c.gcd-divisor.ensures.value) in
    record { pivot = simp to_z-of_z are.0; entry = simp to_z-of_z are.1 }
