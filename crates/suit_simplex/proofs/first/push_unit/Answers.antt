use Rattle.std.proofs.Common.{rules, ◌≡◌, ◌+◌, cond}
use Rattle.std.specs.Prelude.{FitsSigned, pos, ◌==◌}
use Rattle.std.specs.Int.{w128}
use Rattle.std.proofs.lemmas.Int.{to_z-of_z}
use Rattle.suit_linear.specs.Tableaus.{unit_numbers}
use Rattle.suit_simplex.proofs.FirstNumbers.{nothing_written, one_written, unit_none, unit_next, unit_narrow}
use Rattle.suit_simplex.proofs.first.push_unit.Goals as goal

pub loop-other-init : goal.loop-other-init
loop-other-init c = nothing_written c.args.numbers.now.items (unit_numbers 0 c.args.index) (unit_none c.args.index)
    c.requires

pub loop-other-preserved : goal.loop-other-preserved
loop-other-preserved c =
    let fits : FitsSigned w128 c.unit.result = search rules in
    let value : c.unit.result ≡ cond (c.loop-other.other == c.args.index) (pos 1) (pos 0) = c.unit.ensures in
    rw (
      simp to_z-of_z at c.in_ok-push.ensures.items,
      value,
    ) (one_written c.args.numbers.now.items c.loop-other.numbers.items
    (unit_numbers c.loop-other.other c.args.index) (unit_numbers (c.loop-other.other + 1) c.args.index)
    (cond (c.loop-other.other == c.args.index) (pos 1) (pos 0)) c.loop-other.invariant
    (unit_narrow (c.loop-other.other == c.args.index)) (unit_next c.loop-other.other c.args.index))
