use Rattle.std.proofs.Common.{◌≡◌, ◌∙◌, ◌++◌, ◌∷◌, ◌≤◌, ◌*ℤ◌, ℕ, ℤ, List, [], length, map, Some, pos, sym, ap, refl}
use Rattle.std.proofs.Common.{subst, rules, arith, SFits}
use Rattle.std.specs.Prelude.{IfOk}
use Rattle.std.specs.Int.{w128}
use Rattle.std.proofs.lemmas.Int.{to_z-of_z}
use Rattle.std.proofs.lemmas.List.{take_all}
use Rattle.suit_lists.proofs.Indices.{at_itself}
use Rattle.suit_lists.proofs.Walks.{one_off}
use Rattle.suit_classes.specs.ClassMoves.{ClassHistory}
use Rattle.suit_plans.specs.Properness.{sum_of}
use Rattle.suit_tree.specs.declared.node.Node.{Node}
use Rattle.suit_tree.specs.Nodes.{children_of, move_of, turn_at}
use Rattle.suit_reply.specs.NodeReplies.{NodeReplyView}
use Rattle.suit_reply.specs.Turns.{TurnView, finished, gathered}
use Rattle.suit_reply.specs.AgainstDefence.{most_gathers, shared_masses}
use Rattle.suit_reply.proofs.NodesAt.{no_node, node_at}
use Rattle.suit_reply.proofs.MostChildByChild.ChildrenAreAsked.{asked_below, node_order, node_payoff, node_indices, node_positive}
use Rattle.suit_reply.proofs.MostChildByChild.ChildrenAreAsked.{room_falls, step_from}
use Rattle.suit_reply.proofs.WorthAtATurn.SumOrBest.{found_with, joined_many}
use Rattle.suit_reply.proofs.MostChildByChild.{joined_is, sum_fits, tells_earned, tells_gathered, tells_none, told_at}
use Rattle.suit_reply.proofs.against_defence.AgainstDefence.+below.Goals as goal

pub returns-then-is_empty-clause-reply : goal.returns-then-is_empty-clause-reply
returns-then-is_empty-clause-reply t c =
    c.of.ensures ∙ sym (tells_none c.args.self.now.layouts.now c.args.self.now.rows.now c.args.history.now.items
    c.args.masses.now c.args.node.now c.requires c.if-is_empty.ensures)

pub earned-requires-clause-payoff : goal.earned-requires-clause-payoff
earned-requires-clause-payoff t c =
    omega (
      arith,
      c.payoff.ensures,
      node_payoff c.args.self.now.layouts.now c.args.self.now.rows.now c.args.history.now.items c.args.masses.now
          c.args.node.now c.requires,
    )

pub earned-requires-clause-positive : goal.earned-requires-clause-positive
earned-requires-clause-positive t c =
    node_positive c.args.self.now.layouts.now c.args.self.now.rows.now c.args.history.now.items c.args.masses.now
    c.args.node.now c.requires

pub returns-in_default-clause-reply : goal.returns-in_default-clause-reply
returns-in_default-clause-reply t c =
    let masses = c.args.masses.now in
    let fits : SFits w128 c.earned.result = search rules in
    c.of-in_default.ensures
    ∙ ap (λ (z : ℤ). found_with z [])
    (to_z-of_z w128 c.earned.result fits ∙ c.earned.ensures
    ∙ ap (λ (n : ℕ). sum_of (map (λ (held : ℕ × ℤ). pos n *ℤ held.1) masses)) c.payoff.ensures)
    ∙ sym (tells_earned c.args.self.now.layouts.now c.args.self.now.rows.now c.args.history.now.items masses
    c.args.node.now c.requires c.if-is_empty.ensures
    (c.in_default.ensures ∙ ap most_gathers c.turn.ensures))

pub loop-child-init : goal.loop-child-init
unfolding gathered
loop-child-init t c = record {
  so_far = c.none-so_far.ensures;
  many = omega (arith, ap (λ (all : TurnView). all.many) c.none-so_far.ensures);
  kept = refl;
}

pub passed-requires-clause-order : goal.passed-requires-clause-order
passed-requires-clause-order t c =
    node_order c.args.self.now.layouts.now c.args.self.now.rows.now c.args.history.now.items c.args.masses.now
    c.args.node.now c.requires

pub passed-requires-clause-indices : goal.passed-requires-clause-indices
passed-requires-clause-indices t c =
    node_indices c.args.self.now.layouts.now c.args.self.now.rows.now c.args.history.now.items c.args.masses.now
    c.args.node.now c.requires

pub below-requires : goal.below-requires
below-requires t c =
    let layouts = c.args.self.now.layouts.now in
    let rows = c.args.self.now.rows.now in
    let history = c.args.history.now.items in
    let masses = c.args.masses.now in
    let node = c.args.node.now in
    let child = node_at c.children-child-items.result.now c.loop-child.child-index in
    let index = c.loop-child.child-index in
    let share : c.deref-in-loop-child.result.now
    ≡ shared_masses (turn_at node) layouts rows (children_of node) c.deref.result.now masses child =
    c.deref-in-loop-child.ensures.value ∙ c.in_ok-passed.ensures in
    let step =
    step_from layouts rows history masses node index child c.push.new.self.items c.deref-in-loop-child.result.now
    c.children-child-items.result.now c.loop-child.history.items c.deref.result.now
    c.mv-mv.result c.children-child-items.ensures c.loop-child-test.true
    (sym (at_itself c.children-child-items.result.now c.loop-child.child-index no_node))
    c.loop-child.invariant.kept c.deref.ensures.value c.mv-mv.ensures c.in_ok-push.ensures.items
    share in
    let gathers : Some c.in-Some.rule ≡ most_gathers (turn_at node) =
    c.in-Some.ensures ∙ ap most_gathers c.turn.ensures in (
      room_falls layouts rows history masses node c.requires index child c.push.new.self.items
          c.deref-in-loop-child.result.now t step c.decreases,
      asked_below layouts rows history masses node c.requires c.in-Some.rule index child c.push.new.self.items
          c.deref-in-loop-child.result.now gathers step,
    )

pub join-requires-clause-many : goal.join-requires-clause-many
join-requires-clause-many t c = let many = c.loop-child.invariant.many in grind arith

pub join-requires-clause-sum : goal.join-requires-clause-sum
join-requires-clause-sum t c =
    let layouts = c.args.self.now.layouts.now in
    let rows = c.args.self.now.rows.now in
    let history = c.args.history.now.items in
    let masses = c.args.masses.now in
    let node = c.args.node.now in
    let child = node_at c.children-child-items.result.now c.loop-child.child-index in
    let index = c.loop-child.child-index in
    let share : c.deref-in-loop-child.result.now
    ≡ shared_masses (turn_at node) layouts rows (children_of node) c.deref.result.now masses child =
    c.deref-in-loop-child.ensures.value ∙ c.in_ok-passed.ensures in
    let step =
    step_from layouts rows history masses node index child c.push.new.self.items c.deref-in-loop-child.result.now
    c.children-child-items.result.now c.loop-child.history.items c.deref.result.now
    c.mv-mv.result c.children-child-items.ensures c.loop-child-test.true
    (sym (at_itself c.children-child-items.result.now c.loop-child.child-index no_node))
    c.loop-child.invariant.kept c.deref.ensures.value c.mv-mv.ensures c.in_ok-push.ensures.items
    share in
    let gathers : Some c.in-Some.rule ≡ most_gathers (turn_at node) =
    c.in-Some.ensures ∙ ap most_gathers c.turn.ensures in
    sum_fits layouts rows history masses node c.requires c.in-Some.rule index child c.push.new.self.items
    c.deref-in-loop-child.result.now c.loop-child.so_far c.in_ok-reply.reply
    gathers step c.in_ok-reply.ensures.reply c.loop-child.invariant.so_far

pub loop-child-preserved : goal.loop-child-preserved
loop-child-preserved t c =
    let layouts = c.args.self.now.layouts.now in
    let rows = c.args.self.now.rows.now in
    let history = c.args.history.now.items in
    let masses = c.args.masses.now in
    let node = c.args.node.now in
    let child = node_at c.children-child-items.result.now c.loop-child.child-index in
    let index = c.loop-child.child-index in
    let share : c.deref-in-loop-child.result.now
    ≡ shared_masses (turn_at node) layouts rows (children_of node) c.deref.result.now masses child =
    c.deref-in-loop-child.ensures.value ∙ c.in_ok-passed.ensures in
    let step =
    step_from layouts rows history masses node index child c.push.new.self.items c.deref-in-loop-child.result.now
    c.children-child-items.result.now c.loop-child.history.items c.deref.result.now
    c.mv-mv.result c.children-child-items.ensures c.loop-child-test.true
    (sym (at_itself c.children-child-items.result.now c.loop-child.child-index no_node))
    c.loop-child.invariant.kept c.deref.ensures.value c.mv-mv.ensures c.in_ok-push.ensures.items
    share in
    let before = c.loop-child.so_far in
    let pushed : c.below.new.history.items ≡ history ++ move_of child ∷ [] = c.in_ok-reply.ensures.kept ∙ step.after in
    record {
      so_far =
          joined_is layouts rows history masses node c.in-Some.rule index child c.push.new.self.items
          c.deref-in-loop-child.result.now before c.in_ok-so_far.so_far c.mv-mv.result c.in_ok-reply.reply
          step c.in_ok-reply.ensures.reply c.loop-child.invariant.so_far c.mv-mv.ensures c.in_ok-so_far.ensures;
      many = omega (
        arith,
        c.loop-child.invariant.many,
        ap (λ (all : TurnView). all.many) c.in_ok-so_far.ensures,
        joined_many c.in-Some.rule before c.mv-mv.result c.in_ok-reply.reply,
      );
      kept = one_off history c.below.new.history.items c.pop.new.self.items (move_of child) _ pushed
          c.below.new.history.ok.0 c.pop.ensures.rest;
    }

pub returns-clause-reply : goal.returns-clause-reply
returns-clause-reply t c =
    let layouts = c.args.self.now.layouts.now in
    let rows = c.args.self.now.rows.now in
    let history = c.args.history.now.items in
    let masses = c.args.masses.now in
    let node = c.args.node.now in
    let rule = c.in-Some.rule in
    let nodes = c.children-child-items.ensures in
    let past = subst (λ (l : List Node). length l ≤ c.loop-child.child-index) nodes c.loop-child-test.false in
    let told = told_at layouts rows history masses node in
    subst (λ (v : NodeReplyView). IfOk c.finish.result (λ reply. reply ≡ v))
    (ap (λ (h : ClassHistory). finished rule h c.loop-child.so_far)
    (c.deref-2.ensures.value ∙ c.loop-child.invariant.kept)
    ∙ ap (finished rule history) (c.loop-child.invariant.so_far
    ∙ ap (λ (l : List Node). gathered rule (map told l)) (take_all c.loop-child.child-index (children_of node) past))
    ∙ sym (tells_gathered layouts rows history masses node c.requires rule c.if-is_empty.ensures
    (c.in-Some.ensures ∙ ap most_gathers c.turn.ensures)))
    c.finish.ensures

pub returns-clause-kept : goal.returns-clause-kept
returns-clause-kept t c = let kept = c.loop-child.invariant.kept in search rules
