use Rattle.std.proofs.Common.{rules}
use Rattle.std.specs.Prelude.{FitsSigned, ◌*ℤ◌}
use Rattle.std.specs.Int.{w128}
use Rattle.std.proofs.lemmas.Int.{to_z-of_z}
use Rattle.suit_linear.proofs.RatioTestByRow.{before_is}
use Rattle.suit_simplex.proofs.dense.is_before.Goals as goal

pub returns : goal.returns
returns c =
    let bound_fits : FitsSigned w128 c.args.bound = c.ranges.bound in
    let entry_fits : FitsSigned w128 c.args.entry = c.ranges.entry in
    let best_bound_fits : FitsSigned w128 c.args.best_bound = c.ranges.best_bound in
    let best_entry_fits : FitsSigned w128 c.args.best_entry = c.ranges.best_entry in
    let ratio_fits : FitsSigned w128 c.in_ok-ratio.ratio = search rules in
    let least_fits : FitsSigned w128 c.in_ok-least.least = search rules in
    before_is (c.args.bound *ℤ c.args.best_entry) (c.args.best_bound *ℤ c.args.entry) c.in_ok-ratio.ratio
    c.in_ok-least.least c.args.lower c.precedes.result (simp to_z-of_z at c.in_ok-ratio.ensures)
    (simp to_z-of_z at c.in_ok-least.ensures) (simp to_z-of_z at c.precedes.ensures)
