use Rattle.std.proofs.Common.{rules, ◌≡◌, ◌∙◌, ◌+◌, ◌≤◌, ℕ, true, false, sym, ap, subst, arith}
use Rattle.std.proofs.Common.{[], ◌∷◌, ◌++◌, append-nil, length, length-append, refl, SFits, to_z, of_z, Option}
use Rattle.std.specs.Int.{w128}
use Rattle.std.proofs.lemmas.Int.{to_z-of_z}
use Rattle.suit_lists.proofs.Walks.{one_off}
use Rattle.suit_classes.specs.ClassMoves.{ClassHistory}
use Rattle.suit_plans.specs.Masses.{Shares}
use Rattle.suit_tree.specs.Nodes.{children_of}
use Rattle.suit_program.specs.Walks.PlanWalks.{IsPlanStop}
use Rattle.suit_program.specs.Readings.Sharing.{through}
use Rattle.suit_program.proofs.lemmas.Walks.PlanAtATurn.{turn_within}
use Rattle.suit_program.proofs.lemmas.Walks.PlanGoesOn.{first_after, first_rows, last_after, last_rows, more_after}
use Rattle.suit_program.proofs.lemmas.Walks.PlanGoesOn.{more_rows, next_stop, with_mass}
use Rattle.suit_program.proofs.lemmas.Walks.WhatAWalkGathers.{room_below}
use Rattle.suit_program.proofs.walks.plan_reader.PlanReader.+below.Goals as goal
use Rattle.suit_program.proofs.walks.plan_reader.PlanReader.+below.Goals.{in-Some+in_ok-push+in_ok-after, in_default}

pub past-after-requires : goal.past-after-requires
past-after-requires t c =
    let turn = c.requires.turn in
    subst (λ (n : ℕ). c.args.column + n ≤ length c.args.self.now.parts.now)
    (sym (c.columns_here.ensures turn.question turn.support turn.history turn.reached))
    (turn_within c.args.self.now c.args.reach.now c.args.column c.args.mass turn)

pub loop-child-init : goal.loop-child-init
loop-child-init t c =
    let mass = to_z w128 (of_z w128 c.args.mass) in
    record {
      kept = refl;
      after = λ stop.
          first_after c.args.self.now c.args.reach.now c.args.history.now.items c.args.column mass stop
          c.columns_here.result c.past-after.result
          (c.columns_here.ensures stop.turn.question stop.turn.support stop.turn.history stop.turn.reached)
          c.past-after.ensures;
      rows = λ stop.
          first_rows c.args.self.now c.args.reach.now c.args.history.now.items c.args.column mass stop
          c.args.rows.now.items c.add_row.new.rows.items c.deref.result.now c.in_ok-shares.shares
          c.in_ok-add_row.ensures
          c.deref.ensures.value (c.in_ok-shares.ensures stop.turn);
    }

pub below-requires : goal.below-requires
below-requires t c =
    let mass = to_z w128 (of_z w128 c.args.mass) in
    let fits : SFits w128 c.args.mass = search rules in
    let passed : SFits w128 c.through-passed.result = search rules in
    let stop : IsPlanStop c.args.self.now c.args.reach.now c.args.history.now.items c.args.column mass =
    with_mass c.requires mass (to_z-of_z w128 c.args.mass fits) in
    let turn = stop.turn in
    let nodes = c.children-child-items.result.now in
    let same = c.children-child-items.ensures ∙ ap children_of c.node-node.ensures in
    let i = c.loop-child.child-index in
    let short = room_below turn.question turn.support turn.history c.args.reach.now turn.reached nodes same i
    c.loop-child-test.true in
    let here = stop.here in
    let pushed : c.push.new.self.items ≡ c.args.history.now.items ++ c.mv-mv.result ∷ [] =
    c.in_ok-push.ensures.items
    ∙ ap (λ (h : ClassHistory). h ++ c.mv-mv.result ∷ []) c.loop-child.invariant.kept in (
      omega (
        arith,
        c.decreases,
        short,
        ap (λ (h : ClassHistory). length h) here,
        ap (λ (h : ClassHistory). length h) pushed,
        length-append c.args.history.now.items (c.mv-mv.result ∷ []),
      ),
      next_stop c.args.self.now c.args.reach.now c.args.history.now.items c.args.column mass stop nodes same i
          c.loop-child-test.true c.in-Some.next
          (c.in-Some.ensures.some turn.question turn.support turn.history turn.reached)
          (c.in-Some.ensures.next turn.question turn.support turn.history turn.reached) c.loop-child.after
          (c.loop-child.invariant.after stop) c.mv-mv.result c.mv-mv.ensures c.in_ok-shares.shares
          (c.in_ok-shares.ensures stop.turn) (to_z w128 (of_z w128 c.through-passed.result))
          (to_z-of_z w128 c.through-passed.result passed ∙ c.through-passed.ensures
          ∙ ap (λ (o : Option Shares). through o mass c.mv-mv.result) c.as_ref-held.ensures.value)
          c.push.new.self.items pushed,
    )

pub loop-child-preserved : goal.loop-child-preserved
loop-child-preserved t c =
    let mass = to_z w128 (of_z w128 c.args.mass) in
    let nodes = c.children-child-items.result.now in
    let same = c.children-child-items.ensures ∙ ap children_of c.node-node.ensures in
    let i = c.loop-child.child-index in
    let history = c.args.history.now.items in
    elim c.match-child.branch [
      | in-Some+in_ok-push+in_ok-after w ↦
          let passed : SFits w128 w.through-passed.result = search rules in
          let pushed : w.push.new.self.items ≡ history ++ w.mv-mv.result ∷ [] =
          w.in_ok-push.ensures.items
          ∙ ap (λ (h : ClassHistory). h ++ w.mv-mv.result ∷ []) c.loop-child.invariant.kept in
          record {
            kept = ap (λ v. v.items) w.history-is
                ∙ one_off history w.below.new.history.items w.pop.new.self.items w.mv-mv.result _
                (w.in_ok-after.ensures.kept ∙ pushed) w.below.new.history.ok.0 w.pop.ensures.rest;
            after = λ stop.
                let turn = stop.turn in
                let goes = w.in-Some.ensures.some turn.question turn.support turn.history turn.reached in
                let next = next_stop c.args.self.now c.args.reach.now history c.args.column mass stop nodes same i
                c.loop-child-test.true w.in-Some.next goes
                (w.in-Some.ensures.next turn.question turn.support turn.history turn.reached) c.loop-child.after
                (c.loop-child.invariant.after stop) w.mv-mv.result w.mv-mv.ensures c.in_ok-shares.shares
                (c.in_ok-shares.ensures stop.turn) (to_z w128 (of_z w128 w.through-passed.result))
                (to_z-of_z w128 w.through-passed.result passed ∙ w.through-passed.ensures
                ∙ ap (λ (o : Option Shares). through o mass w.mv-mv.result) c.as_ref-held.ensures.value)
                w.push.new.self.items pushed in
                w.after-is
                ∙ more_after c.args.self.now c.args.reach.now history c.args.column mass stop nodes same i
                c.loop-child-test.true true goes c.loop-child.after w.in_ok-after.after
                (c.loop-child.invariant.after stop) (w.in_ok-after.ensures.column next);
            rows = λ stop.
                let turn = stop.turn in
                let goes = w.in-Some.ensures.some turn.question turn.support turn.history turn.reached in
                let next = next_stop c.args.self.now c.args.reach.now history c.args.column mass stop nodes same i
                c.loop-child-test.true w.in-Some.next goes
                (w.in-Some.ensures.next turn.question turn.support turn.history turn.reached) c.loop-child.after
                (c.loop-child.invariant.after stop) w.mv-mv.result w.mv-mv.ensures c.in_ok-shares.shares
                (c.in_ok-shares.ensures stop.turn) (to_z w128 (of_z w128 w.through-passed.result))
                (to_z-of_z w128 w.through-passed.result passed ∙ w.through-passed.ensures
                ∙ ap (λ (o : Option Shares). through o mass w.mv-mv.result) c.as_ref-held.ensures.value)
                w.push.new.self.items pushed in
                ap (λ v. v.items) w.rows-is
                ∙ more_rows c.args.self.now c.args.reach.now history c.args.column mass stop nodes same i
                c.loop-child-test.true true goes c.args.rows.now.items c.loop-child.rows.items w.below.new.rows.items
                (c.loop-child.invariant.rows stop) (w.in_ok-after.ensures.rows next);
          }
      | in_default w ↦ record {
        kept = ap (λ v. v.items) w.history-is ∙ c.loop-child.invariant.kept;
        after = λ stop.
            let turn = stop.turn in
            w.after-is
            ∙ more_after c.args.self.now c.args.reach.now history c.args.column mass stop nodes same i
            c.loop-child-test.true false (w.in_default.ensures.some turn.question turn.support turn.history
            turn.reached)
            c.loop-child.after c.loop-child.after (c.loop-child.invariant.after stop) (omega arith);
        rows = λ stop.
            let turn = stop.turn in
            ap (λ v. v.items) w.rows-is
            ∙ more_rows c.args.self.now c.args.reach.now history c.args.column mass stop nodes same i
            c.loop-child-test.true false (w.in_default.ensures.some turn.question turn.support turn.history
            turn.reached)
            c.args.rows.now.items c.loop-child.rows.items c.loop-child.rows.items (c.loop-child.invariant.rows stop)
            (sym (append-nil c.loop-child.rows.items));
      }
    ]

pub returns-clause-column : goal.returns-clause-column
returns-clause-column t c = λ stop.
    let mass = to_z w128 (of_z w128 c.args.mass) in
    let fits : SFits w128 c.args.mass = search rules in
    let told = with_mass stop mass (to_z-of_z w128 c.args.mass fits) in
    last_after c.args.self.now c.args.reach.now c.args.history.now.items c.args.column mass told
    c.children-child-items.result.now (c.children-child-items.ensures ∙ ap children_of c.node-node.ensures)
    c.loop-child.child-index c.loop-child-test.false c.loop-child.after (c.loop-child.invariant.after told)

pub returns-clause-rows : goal.returns-clause-rows
returns-clause-rows t c = λ stop.
    let mass = to_z w128 (of_z w128 c.args.mass) in
    let fits : SFits w128 c.args.mass = search rules in
    let told = with_mass stop mass (to_z-of_z w128 c.args.mass fits) in
    last_rows c.args.self.now c.args.reach.now c.args.history.now.items c.args.column mass told
    c.children-child-items.result.now (c.children-child-items.ensures ∙ ap children_of c.node-node.ensures)
    c.loop-child.child-index c.loop-child-test.false c.args.rows.now.items c.loop-child.rows.items
    (c.loop-child.invariant.rows told)
