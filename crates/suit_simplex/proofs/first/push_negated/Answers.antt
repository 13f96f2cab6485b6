use Rattle.std.proofs.Common.{rules, arith, ◌≡◌, ◌+◌, map, take}
use Rattle.std.specs.Prelude.{FitsSigned, neg_ℤ}
use Rattle.std.specs.Int.{w128}
use Rattle.std.proofs.lemmas.Int.{to_z-of_z}
use Rattle.suit_linear.specs.Points.{number_at}
use Rattle.suit_simplex.proofs.FirstNumbers.{one_written, negated_next, neg_narrow}
use Rattle.suit_simplex.proofs.first.push_negated.Goals as goal

pub loop-cost-preserved : goal.loop-cost-preserved
loop-cost-preserved c =
    let cost_fits : FitsSigned w128 (number_at c.args.costs.now c.loop-cost.cost-index) = search rules in
    let fits : FitsSigned w128 c.negated.result = search rules in
    let value : c.negated.result ≡ neg_ℤ (number_at c.args.costs.now c.loop-cost.cost-index) =
    simp to_z-of_z at c.negated.ensures in
    rw (
      simp to_z-of_z at c.in_ok-push.ensures.items,
      value,
    ) (one_written c.args.numbers.now.items c.loop-cost.numbers.items
    (map neg_ℤ (take c.loop-cost.cost-index c.args.costs.now))
    (map neg_ℤ (take (c.loop-cost.cost-index + 1) c.args.costs.now))
    (neg_ℤ (number_at c.args.costs.now c.loop-cost.cost-index)) c.loop-cost.invariant
    (neg_narrow _ (c.requires.costs c.loop-cost.cost-index _ (omega arith)))
    (negated_next c.args.costs.now c.loop-cost.cost-index (omega arith)))
