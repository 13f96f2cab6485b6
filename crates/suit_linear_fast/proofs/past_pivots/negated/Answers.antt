use Rattle.std.proofs.Common.{rules, ◌∙◌}
use Rattle.std.specs.Prelude.{FitsSigned}
use Rattle.std.specs.Int.{w64}
use Rattle.std.proofs.lemmas.Int.{to_z-of_z, wrapping_neg_is}
use Rattle.suit_linear_fast.proofs.past_pivots.negated.Goals as goal

pub returns : goal.returns
returns c =
    let fits : FitsSigned w64 c.args.number = c.ranges.number in
    let result_fits : FitsSigned w64 c.wrapping_neg.result = search rules in
    simp to_z-of_z (simp to_z-of_z at c.wrapping_neg.ensures ∙ wrapping_neg_is w64 c.args.number fits)
