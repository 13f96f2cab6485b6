use Rattle.std.proofs.Common.{rules, ◌≡◌}
use Rattle.std.specs.Prelude.{FitsSigned}
use Rattle.std.specs.Int.{w128}
use Rattle.std.proofs.lemmas.Int.{to_z-of_z}
use Rattle.suit_linear.specs.Pivots.{combined, share}
use Rattle.suit_simplex.proofs.row.clear.Goals as goal

pub make_primitive-requires-clause-some : goal.make_primitive-requires-clause-some
make_primitive-requires-clause-some c =
    let pivot_fits : FitsSigned w128 c.args.pivot = c.ranges.pivot in
    let entry_fits : FitsSigned w128 c.args.entry = c.ranges.entry in
    let own_fits : FitsSigned w128 c.shares-own.result.0 = search rules in
    let other_fits : FitsSigned w128 c.shares-own.result.1 = search rules in
    let own : c.shares-own.result.0 ≡ share c.args.pivot c.args.entry = simp to_z-of_z at c.shares-own.ensures.pivot in
    let other : c.shares-own.result.1 ≡ share c.args.entry c.args.pivot =
    simp to_z-of_z at c.shares-own.ensures.entry in
    let value : c.combine.new.row
    ≡ combined c.shares-own.result.0 c.args.numbers.now c.shares-own.result.1 c.args.leaver.now =
    simp to_z-of_z at c.in_ok-combine.ensures.value in
    rw (value, own, other) c.requires.some
