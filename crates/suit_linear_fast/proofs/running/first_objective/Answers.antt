use Rattle.std.proofs.Common.{rules, arith, ◌≡◌, ◌++◌, ◌∷◌, []}
use Rattle.std.specs.Prelude.{FitsSigned, neg_ℤ}
use Rattle.std.specs.Int.{w64, w128}
use Rattle.std.proofs.lemmas.Int.{to_z-of_z}
use Rattle.suit_linear.specs.Points.{number_at}
use Rattle.suit_linear_fast.proofs.FastRuns.{first_two, cost_more, costs_done, zero_more}
use Rattle.suit_linear_fast.proofs.running.first_objective.Goals as goal

pub loop-cost-init : goal.loop-cost-init
loop-cost-init c = first_two _
    (rw c.new-objective.ensures.items at (rw c.in_ok-push.ensures.items at c.in_ok-push-2.ensures.items))

pub loop-cost-preserved : goal.loop-cost-preserved
loop-cost-preserved c =
    let cost_fits : FitsSigned w128 (number_at c.args.costs.now c.loop-cost.cost-index) = search rules in
    let number_fits : FitsSigned w64 c.in-Some.number = search rules in
    let facts = rw c.in-Some.is at c.small.ensures in
    let value : c.in-Some.number ≡ number_at c.args.costs.now c.loop-cost.cost-index = simp to_z-of_z at facts.value in
    let negated_fits : FitsSigned w64 c.negated.result = search rules in
    let negated : c.negated.result ≡ neg_ℤ c.in-Some.number = simp to_z-of_z at c.negated.ensures in
    let items : c.push-in-loop-cost.new.self.items ≡ c.loop-cost.objective.items ++ neg_ℤ c.in-Some.number ∷ [] =
    rw negated at (simp to_z-of_z at c.in_ok-push-3.ensures.items) in
    rw items (cost_more c.args.costs.now c.loop-cost.objective.items c.loop-cost.cost-index c.in-Some.number
    c.loop-cost-test.true c.loop-cost.invariant value facts.small)

pub loop-row-init : goal.loop-row-init
loop-row-init c = costs_done c.args.costs.now c.loop-cost.objective.items c.loop-cost.cost-index (omega arith)
    c.loop-cost.invariant

pub loop-row-preserved : goal.loop-row-preserved
loop-row-preserved c = rw c.in_ok-push-4.ensures.items
    (zero_more c.args.costs.now c.loop-row.objective.items c.loop-row.row c.loop-row.invariant)

pub returns-clause-value : goal.returns-clause-value
returns-clause-value c =
    let done : c.loop-row.row ≡ c.args.rows = omega arith in
    rw (← done) c.loop-row.invariant.is
