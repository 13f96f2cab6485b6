use Rattle.std.proofs.Common.{◌≡◌, pos, true, sym, rules}
use Rattle.std.specs.Prelude.{FitsSigned, ◌<ℤ◌}
use Rattle.std.specs.Int.{w128}
use Rattle.std.proofs.lemmas.Int.{to_z-of_z}
use Rattle.suit_answer.specs.LowestTerms.{is_lowest, are_positive, are_coprime}
use Rattle.suit_answer.proofs.Lowest.{lowest_yes, told_as}
use Rattle.suit_answer.proofs.values.fraction_of.Goals as goal

pub invariant_of-result : goal.invariant_of-result
invariant_of-result c =
    let num_fits : FitsSigned w128 c.args.num = c.ranges.num in
    let den_fits : FitsSigned w128 c.args.den = c.ranges.den in
    let above : pos 0 <ℤ c.args.den = search rules in
    let lowest : is_lowest c.args.num c.args.den ≡ true =
    lowest_yes c.args.num c.args.den c.gcd.result above (simp to_z-of_z at c.gcd.ensures.value) (search rules) in
    record {
      positive = simp to_z-of_z (are_positive c.args.num c.args.den lowest);
      coprime = simp to_z-of_z (are_coprime c.args.num c.args.den lowest);
    }

pub returns : goal.returns
returns c =
    let num_fits : FitsSigned w128 c.args.num = c.ranges.num in
    let den_fits : FitsSigned w128 c.args.den = c.ranges.den in
    let above : pos 0 <ℤ c.args.den = search rules in
    let lowest : is_lowest c.args.num c.args.den ≡ true =
    lowest_yes c.args.num c.args.den c.gcd.result above (simp to_z-of_z at c.gcd.ensures.value) (search rules) in
    sym (told_as c.args.num c.args.den _ (simp to_z-of_z) (simp to_z-of_z) lowest)
