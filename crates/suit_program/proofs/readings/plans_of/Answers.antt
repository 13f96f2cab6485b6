use Rattle.std.proofs.Common.{rules, ◌∙◌, ap, ℤ, List, SFits, to_z, of_z}
use Rattle.std.specs.Int.{w128}
use Rattle.std.proofs.lemmas.Int.{to_z-of_z}
use Rattle.suit_program.specs.Supports.Marks.{support_seen}
use Rattle.suit_program.specs.Readings.{defence_of}
use Rattle.suit_program.proofs.lemmas.Readings.BothAreRead.{plan_case, priced_tree, same_den}
use Rattle.suit_program.proofs.readings.plans_of.Goals as goal

pub read_defence-requires : goal.read_defence-requires
read_defence-requires c =
    let case = c.requires in
    let scale : SFits w128 c.args.optimum.now.scale = search rules in
    priced_tree c.args.tree.now c.args.support.now c.args.optimum.now case c.in_ok-den.den
    (c.in_ok-den.ensures.den case) c.items.result.now c.items.ensures _ (to_z-of_z w128 c.args.optimum.now.scale scale)

pub returns-clause-read : goal.returns-clause-read
returns-clause-read c = λ case.
    let den : SFits w128 c.in_ok-den.den = search rules in
    let scale : SFits w128 c.args.optimum.now.scale = search rules in
    let told = c.in_ok-den.ensures.den case in
    let seen = support_seen case.question c.args.support.now in
    record {
      narrow = told.narrow;
      is_plan = c.in_ok-plan.ensures.read (plan_case c.args.tree.now c.args.support.now c.args.optimum.now case
          (to_z w128 (of_z w128 c.in_ok-den.den))
          (same_den case.question seen c.args.optimum.now c.in_ok-den.den (to_z w128 (of_z w128 c.in_ok-den.den))
          (to_z-of_z w128 c.in_ok-den.den den) told));
      is_defence = c.in_ok-defence.ensures (priced_tree c.args.tree.now c.args.support.now c.args.optimum.now case
          c.in_ok-den.den told c.items.result.now c.items.ensures (to_z w128 (of_z w128 c.args.optimum.now.scale))
          (to_z-of_z w128 c.args.optimum.now.scale scale))
          ∙ ap (λ (l : List ℤ). defence_of case.question seen l (to_z w128 (of_z w128 c.args.optimum.now.scale)))
          c.items.ensures
          ∙ ap (defence_of case.question seen c.args.optimum.now.duals)
          (to_z-of_z w128 c.args.optimum.now.scale scale);
    }
