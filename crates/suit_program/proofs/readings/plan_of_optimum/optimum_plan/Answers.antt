use Rattle.std.proofs.Common.{rules, ◌∙◌, ap, List, [], ◌++◌}
use Rattle.std.proofs.Common.{SFits}
use Rattle.std.specs.Int.{w128}
use Rattle.std.proofs.lemmas.Int.{to_z-of_z}
use Rattle.suit_plans.specs.declared.plan.Row.{Row}
use Rattle.suit_program.specs.Supports.Marks.{support_seen}
use Rattle.suit_program.specs.Walks.PlanWalks.{reading_of, row_here}
use Rattle.suit_program.specs.Walks.{walked}
use Rattle.suit_program.proofs.lemmas.Walks.PlanFromTheStart.{plan_whole, start_stop}
use Rattle.suit_program.proofs.readings.plan_of_optimum.optimum_plan.Goals as goal

pub below-requires : goal.below-requires
below-requires c =
    let den : SFits w128 c.args.den = search rules in
    let case = c.requires in
    start_stop c.args.tree.now c.args.support.now c.args.optimum.now c.args.den case _ c.items-parts.ensures
    (to_z-of_z w128 c.args.den den) c.start-start.result (c.start-start.ensures case.question case.valid case.grown) _
    (to_z-of_z w128 c.args.den den) _ c.new-history.ensures.items

pub returns-clause-read : goal.returns-clause-read
returns-clause-read c = λ case.
    let den : SFits w128 c.args.den = search rules in
    plan_whole c.args.tree.now c.args.support.now c.args.optimum.now c.args.den case c.in_ok-rows.rows _
    (to_z-of_z w128 c.args.den den)
    (c.in_ok-rows.ensures.rows
    ∙ c.in_ok-below.ensures.rows (start_stop c.args.tree.now c.args.support.now c.args.optimum.now c.args.den case _
    c.items-parts.ensures (to_z-of_z w128 c.args.den den) c.start-start.result
    (c.start-start.ensures case.question case.valid case.grown) _ (to_z-of_z w128 c.args.den den) _
    c.new-history.ensures.items)
    ∙ ap (λ (l : List Row). l ++ walked (row_here (reading_of case.question (support_seen case.question
    c.args.support.now) c.args.optimum.now)) case.question (support_seen case.question c.args.support.now) [])
    c.new-rows.ensures.items)
