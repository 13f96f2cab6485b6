use Rattle.std.proofs.Common.{rules}
use Rattle.std.specs.Prelude.{FitsSigned}
use Rattle.std.specs.Int.{w128}
use Rattle.std.proofs.lemmas.Int.{to_z-of_z}
use Rattle.suit_linear.proofs.CombinationByIndex.{combine_is}
use Rattle.suit_simplex.proofs.row.combine_numbers.Goals as goal

pub returns : goal.returns
returns c =
    let own_fits : FitsSigned w128 c.args.own = c.ranges.own in
    let number_fits : FitsSigned w128 c.args.number = c.ranges.number in
    let other_fits : FitsSigned w128 c.args.other = c.ranges.other in
    let leaver_fits : FitsSigned w128 c.args.leaver = c.ranges.leaver in
    let first_fits : FitsSigned w128 c.in_ok-mul.field-0 = search rules in
    let second_fits : FitsSigned w128 c.in_ok-mul-2.field-0 = search rules in
    combine_is c.args.own c.args.number c.args.other c.args.leaver c.in_ok-mul.field-0 c.in_ok-mul-2.field-0 _
    (simp to_z-of_z at c.in_ok-mul.ensures) (simp to_z-of_z at c.in_ok-mul-2.ensures)
    (simp to_z-of_z at c.sub.ensures)
