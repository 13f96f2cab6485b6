use Rattle.std.proofs.Common.{rules, Result, Ok, Err, OnOk, int_eq, ◌≡◌, ◌-◌, ◌++◌, ◌+◌, ◌<◌, ℕ, false, List, [], ◌∷◌}
use Rattle.std.proofs.Common.{get_or, length, SFits, ℤ, pos, ◌*ℤ◌, to_z, of_z, arith, refl, sym, ap, ◌∙◌, subst}
use Rattle.std.specs.Int.{w128}
use Rattle.std.proofs.lemmas.Result.{IfOk-weaker}
use Rattle.std.proofs.lemmas.Int.{to_z-of_z, to_z_pos}
use Rattle.suit_lists.proofs.Indices.{at_itself}
use Rattle.suit_lists.proofs.Walks.{one_off}
use Rattle.suit_classes.specs.declared.class_turn.ClassTurn.{ClassTurn}
use Rattle.suit_classes.specs.ClassMoves.{ClassHistory}
use Rattle.suit_tree.specs.declared.node.Node.{Node}
use Rattle.suit_tree.proofs.NodesFitMoves.{few_children}
use Rattle.suit_tree.specs.Nodes.{children_of, turn_at}
use Rattle.suit_reply.specs.Turns.{TurnView, finished, joined}
use Rattle.suit_reply.specs.AgainstPlan.{goes_to, node_least}
use Rattle.suit_reply.proofs.NodesAt.{no_node, node_at}
use Rattle.suit_reply.proofs.WorthAtATurn.SumOrBest.{found_with, joined_many}
use Rattle.suit_reply.proofs.LeastChildByChild.{Gathers, Goes, added_to, all_told, closed, first_gathered, gathered_first}
use Rattle.suit_reply.proofs.LeastChildByChild.{gathers_own, gathers_their, goes_asked, goes_at, goes_joined, goes_shorter}
use Rattle.suit_reply.proofs.LeastChildByChild.{goes_told, node_rows, over_told, passed_by, some_mass}
use Rattle.suit_reply.proofs.LeastChildByChild.SumsStayBounded.{earned_fits, goes_sum}
use Rattle.suit_reply.proofs.against_plan.AgainstPlan.+below.Goals as goal
use Rattle.suit_reply.proofs.against_plan.AgainstPlan.+below.Goals.{in-Lead, in-Defence}
use Rattle.suit_reply.proofs.against_plan.AgainstPlan.+below.Goals.{then-goes_to+in_ok-push+in_ok-reply+in_ok-so_far}
use Rattle.suit_reply.proofs.against_plan.AgainstPlan.+below.Goals.{else-goes_to}
use Rattle.suit_game.specs.declared.limits.TheConstants.{MOST_MOVES}

pub returns-then-mass-eq0-clause-reply : goal.returns-then-mass-eq0-clause-reply
returns-then-mass-eq0-clause-reply t c =
    let fits : SFits w128 c.args.mass = search rules in
    let none : c.args.mass ≡ pos 0 = sym (to_z-of_z w128 c.args.mass fits) ∙ ap (to_z w128) c.if-mass-eq0.true in
    c.of.ensures
    ∙ sym (closed (MOST_MOVES - length c.args.history.now.items) c.args.self.now.rows.now c.args.index c.args.history.now.items
    c.args.mass c.args.node.now (ap (λ (z : ℤ). int_eq z (pos 0)) none))

pub overflow_mul-payoff : goal.overflow_mul-payoff
overflow_mul-payoff t c =
    let fits : SFits w128 c.args.mass = search rules in
    let wide : to_z w128 c.payoff.result ≡ pos c.payoff.result =
    to_z_pos w128 c.payoff.result (omega (arith, c.payoff.type_inv)) in
    subst (λ (z : ℤ). SFits w128 (z *ℤ to_z w128 (of_z w128 c.args.mass))) (sym wide)
    (subst (λ (z : ℤ). SFits w128 (pos c.payoff.result *ℤ z)) (sym (to_z-of_z w128 c.args.mass fits))
    (earned_fits c.args.self.now.rows.now c.args.index c.args.history.now.items c.args.mass c.args.node.now c.requires
    c.payoff.result c.payoff.ensures))

pub returns-in-Decided-clause-reply : goal.returns-in-Decided-clause-reply
returns-in-Decided-clause-reply t c =
    let fits : SFits w128 c.args.mass = search rules in
    let payoff : ℕ = c.payoff.result in
    let wide : to_z w128 payoff ≡ pos payoff = to_z_pos w128 payoff (omega (arith, c.payoff.type_inv)) in
    let same : to_z w128 payoff *ℤ to_z w128 (of_z w128 c.args.mass) ≡ pos payoff *ℤ c.args.mass =
    ap (λ (z : ℤ). z *ℤ to_z w128 (of_z w128 c.args.mass)) wide
    ∙ ap (λ (z : ℤ). pos payoff *ℤ z) (to_z-of_z w128 c.args.mass fits) in
    let earned : SFits w128 (to_z w128 payoff *ℤ to_z w128 (of_z w128 c.args.mass)) =
    subst (SFits w128) (sym same) (earned_fits c.args.self.now.rows.now c.args.index c.args.history.now.items
    c.args.mass c.args.node.now c.requires payoff c.payoff.ensures) in
    c.of-in-Decided.ensures
    ∙ ap (λ (z : ℤ). found_with z [])
    (to_z-of_z w128 (to_z w128 payoff *ℤ to_z w128 (of_z w128 c.args.mass)) earned ∙ same
    ∙ ap (λ (n : ℕ). pos n *ℤ c.args.mass) c.payoff.ensures)
    ∙ sym (over_told c.args.self.now.rows.now c.args.index c.args.history.now.items c.args.mass c.args.node.now
    c.requires (some_mass c.args.mass c.if-mass-eq0.false) (sym c.turn.ensures ∙ c.in-Decided.is))

pub loop-child-init : goal.loop-child-init
loop-child-init t c = record {
  gathers = subst (λ (turn : ClassTurn). Gathers turn c.match-turn.rule) c.turn.ensures (elim c.match-turn.branch [
    | in-Lead w ↦ gathers_own c.turn.result c.match-turn.rule w.in-Lead.is w.rule-is
    | in-Defence w ↦ gathers_their c.turn.result c.match-turn.rule w.in-Defence.field-0 w.in-Defence.is w.rule-is
  ]);
  so_far = c.none-so_far.ensures
      ∙ gathered_first c.match-turn.rule c.args.self.now.rows.now c.args.index c.args.history.now.items
      (to_z w128 (of_z w128 c.args.mass)) c.args.node.now (turn_at c.args.node.now);
  many = omega (arith, ap (λ (so_far : TurnView). so_far.many) c.none-so_far.ensures);
  kept = refl;
}

pub share-share-requires : goal.share-share-requires
share-share-requires t c =
    node_rows c.args.self.now.rows.now c.args.index c.args.history.now.items c.args.mass c.args.node.now c.requires

pub below-requires : goal.below-requires
below-requires t c =
    let rows = c.args.self.now.rows.now in
    let history = c.args.history.now.items in
    let mass = to_z w128 (of_z w128 c.args.mass) in
    let node = c.args.node.now in
    let part = to_z w128 (of_z w128 c.share-share.result) in
    let fits : SFits w128 c.args.mass = search rules in
    let still : SFits w128 c.share-share.result = search rules in
    let on : Goes c.match-turn.rule rows c.args.index history mass node c.loop-child.child-index
    (node_at c.children-child-items.result.now c.loop-child.child-index)
    c.mv-mv.result part =
    goes_at c.match-turn.rule rows c.args.index history mass c.args.mass node c.loop-child.child-index
    (node_at c.children-child-items.result.now c.loop-child.child-index) c.mv-mv.result part c.share-share.result
    c.children-child-items.result.now c.turn-in-loop-child.result c.deref.result.now c.loop-child.history.items
    c.requires (to_z-of_z w128 c.args.mass fits) c.loop-child.invariant.gathers
    c.children-child-items.ensures c.loop-child-test.true
    (sym (at_itself c.children-child-items.result.now c.loop-child.child-index no_node))
    c.turn-in-loop-child.ensures
    c.if-goes_to.ensures c.mv-mv.ensures (to_z-of_z w128 c.share-share.result still)
    c.share-share.ensures c.deref.ensures.value c.loop-child.invariant.kept in
    let pushed : c.push.new.self.items ≡ history ++ c.mv-mv.result ∷ [] =
    added_to history c.loop-child.history.items c.push.new.self.items c.mv-mv.result c.in_ok-push.ensures.items
    c.loop-child.invariant.kept in (
      omega (
        arith,
        c.decreases,
        goes_shorter c.match-turn.rule rows c.args.index history mass node
            c.loop-child.child-index (node_at c.children-child-items.result.now c.loop-child.child-index)
            c.mv-mv.result part on c.push.new.self.items pushed,
      ),
      goes_asked c.match-turn.rule rows c.args.index history mass node c.loop-child.child-index
          (node_at c.children-child-items.result.now c.loop-child.child-index)
          c.mv-mv.result part on c.push.new.self.items pushed,
    )

pub join-requires-clause-many : goal.join-requires-clause-many
join-requires-clause-many t c =
    let few = few_children (MOST_MOVES - length c.args.history.now.items) c.requires.question c.args.history.now.items
    c.args.node.now c.requires.tree in
    omega (
      arith,
      few,
      c.loop-child.invariant.many,
      c.loop-child-test.true,
      ap (λ (l : List Node). length l) c.children-child-items.ensures,
    )

pub join-requires-clause-sum : goal.join-requires-clause-sum
join-requires-clause-sum t c =
    let rows = c.args.self.now.rows.now in
    let history = c.args.history.now.items in
    let mass = to_z w128 (of_z w128 c.args.mass) in
    let node = c.args.node.now in
    let part = to_z w128 (of_z w128 c.share-share.result) in
    let fits : SFits w128 c.args.mass = search rules in
    let still : SFits w128 c.share-share.result = search rules in
    let on : Goes c.match-turn.rule rows c.args.index history mass node c.loop-child.child-index
    (node_at c.children-child-items.result.now c.loop-child.child-index)
    c.mv-mv.result part =
    goes_at c.match-turn.rule rows c.args.index history mass c.args.mass node c.loop-child.child-index
    (node_at c.children-child-items.result.now c.loop-child.child-index) c.mv-mv.result part c.share-share.result
    c.children-child-items.result.now c.turn-in-loop-child.result c.deref.result.now c.loop-child.history.items
    c.requires (to_z-of_z w128 c.args.mass fits) c.loop-child.invariant.gathers
    c.children-child-items.ensures c.loop-child-test.true
    (sym (at_itself c.children-child-items.result.now c.loop-child.child-index no_node))
    c.turn-in-loop-child.ensures
    c.if-goes_to.ensures c.mv-mv.ensures (to_z-of_z w128 c.share-share.result still)
    c.share-share.ensures c.deref.ensures.value c.loop-child.invariant.kept in
    let pushed : c.push.new.self.items ≡ history ++ c.mv-mv.result ∷ [] =
    added_to history c.loop-child.history.items c.push.new.self.items c.mv-mv.result c.in_ok-push.ensures.items
    c.loop-child.invariant.kept in
    let told =
    goes_told c.match-turn.rule rows c.args.index history mass node c.loop-child.child-index
    (node_at c.children-child-items.result.now c.loop-child.child-index)
    c.mv-mv.result part on c.push.new.self.items c.in_ok-reply.reply pushed c.in_ok-reply.ensures.reply in
    goes_sum c.match-turn.rule rows c.args.index history mass node c.loop-child.child-index
    (node_at c.children-child-items.result.now c.loop-child.child-index)
    c.mv-mv.result part c.loop-child.so_far c.in_ok-reply.reply on
    (subst (λ (l : List Node). c.loop-child.so_far
    ≡ first_gathered c.match-turn.rule rows c.args.index history mass node l c.loop-child.child-index)
    c.children-child-items.ensures c.loop-child.invariant.so_far) told

pub loop-child-preserved : goal.loop-child-preserved
loop-child-preserved t c =
    let rows = c.args.self.now.rows.now in
    let history = c.args.history.now.items in
    let mass = to_z w128 (of_z w128 c.args.mass) in
    let node = c.args.node.now in
    let fits : SFits w128 c.args.mass = search rules in
    let at : (node_at c.children-child-items.result.now c.loop-child.child-index)
    ≡ get_or (children_of node) c.loop-child.child-index
    (node_at c.children-child-items.result.now c.loop-child.child-index) =
    (sym (at_itself c.children-child-items.result.now c.loop-child.child-index no_node))
    ∙ ap (λ (l : List Node). get_or l c.loop-child.child-index
    (node_at c.children-child-items.result.now c.loop-child.child-index))
    c.children-child-items.ensures in
    let within : c.loop-child.child-index < length (children_of node) =
    subst (λ (l : List Node). c.loop-child.child-index < length l) c.children-child-items.ensures
    c.loop-child-test.true in
    let was : c.loop-child.so_far ≡ first_gathered c.match-turn.rule rows c.args.index history mass node
    (children_of node) c.loop-child.child-index =
    subst (λ (l : List Node). c.loop-child.so_far
    ≡ first_gathered c.match-turn.rule rows c.args.index history mass node l c.loop-child.child-index)
    c.children-child-items.ensures c.loop-child.invariant.so_far in
    elim c.if-goes_to.branch [
      | then-goes_to+in_ok-push+in_ok-reply+in_ok-so_far w ↦
          let part = to_z w128 (of_z w128 w.share-share.result) in
          let still : SFits w128 w.share-share.result = search rules in
          let on : Goes c.match-turn.rule rows c.args.index history mass node c.loop-child.child-index
          (node_at c.children-child-items.result.now c.loop-child.child-index) w.mv-mv.result part =
          goes_at c.match-turn.rule rows c.args.index history mass c.args.mass node c.loop-child.child-index
          (node_at c.children-child-items.result.now c.loop-child.child-index) w.mv-mv.result part
          w.share-share.result
          c.children-child-items.result.now c.turn-in-loop-child.result w.deref.result.now c.loop-child.history.items
          c.requires (to_z-of_z w128 c.args.mass fits) c.loop-child.invariant.gathers
          c.children-child-items.ensures c.loop-child-test.true
          (sym (at_itself c.children-child-items.result.now c.loop-child.child-index no_node))
          c.turn-in-loop-child.ensures
          w.if-goes_to.ensures w.mv-mv.ensures (to_z-of_z w128 w.share-share.result still)
          w.share-share.ensures w.deref.ensures.value c.loop-child.invariant.kept in
          let pushed : w.push.new.self.items ≡ history ++ w.mv-mv.result ∷ [] =
          added_to history c.loop-child.history.items w.push.new.self.items w.mv-mv.result
          w.in_ok-push.ensures.items c.loop-child.invariant.kept in
          let told =
          goes_told c.match-turn.rule rows c.args.index history mass node c.loop-child.child-index
          (node_at c.children-child-items.result.now c.loop-child.child-index)
          w.mv-mv.result part on w.push.new.self.items w.in_ok-reply.reply pushed w.in_ok-reply.ensures.reply in
          let joins : w.in_ok-so_far.so_far
          ≡ joined c.match-turn.rule c.loop-child.so_far w.mv-mv.result w.in_ok-reply.reply =
          w.in_ok-so_far.ensures in
          record {
            gathers = c.loop-child.invariant.gathers;
            so_far =
                w.so_far-is ∙ subst (λ (l : List Node). w.in_ok-so_far.so_far
                ≡ first_gathered c.match-turn.rule rows c.args.index history mass node l (c.loop-child.child-index + 1))
                (sym c.children-child-items.ensures)
                (goes_joined c.match-turn.rule rows c.args.index history mass node c.loop-child.child-index
                (node_at c.children-child-items.result.now c.loop-child.child-index) w.mv-mv.result part on
                c.loop-child.so_far w.in_ok-so_far.so_far
                w.in_ok-reply.reply was told joins);
            many = omega (
              arith,
              ap (λ (so_far : TurnView). so_far.many) (w.so_far-is ∙ joins),
              joined_many c.match-turn.rule c.loop-child.so_far w.mv-mv.result w.in_ok-reply.reply,
              c.loop-child.invariant.many,
            );
            kept = ap (λ v. v.items) w.history-is
                ∙ one_off history w.below.new.history.items w.pop.new.self.items w.mv-mv.result _
                (w.in_ok-reply.ensures.kept ∙ pushed) w.below.new.history.ok.0 w.pop.ensures.rest;
          }
      | else-goes_to w ↦
          let stays : goes_to (turn_at node) c.args.index
          (node_at c.children-child-items.result.now c.loop-child.child-index) ≡ false =
          ap (λ (turn : ClassTurn). goes_to turn c.args.index
          (node_at c.children-child-items.result.now c.loop-child.child-index)) (sym c.turn-in-loop-child.ensures)
          ∙ sym w.if-goes_to.ensures in
          record {
            gathers = c.loop-child.invariant.gathers;
            so_far =
                w.so_far-is ∙ subst (λ (l : List Node). c.loop-child.so_far
                ≡ first_gathered c.match-turn.rule rows c.args.index history mass node l (c.loop-child.child-index + 1))
                (sym c.children-child-items.ensures)
                (passed_by c.match-turn.rule rows c.args.index history mass node c.loop-child.child-index
                (node_at c.children-child-items.result.now c.loop-child.child-index) c.loop-child.so_far within at stays
                was);
            many = omega (arith, ap (λ (so_far : TurnView). so_far.many) w.so_far-is, c.loop-child.invariant.many);
            kept = ap (λ v. v.items) w.history-is ∙ c.loop-child.invariant.kept;
          }
    ]

pub returns-clause-reply : goal.returns-clause-reply
returns-clause-reply t c =
    let rows = c.args.self.now.rows.now in
    let history = c.args.history.now.items in
    let mass = to_z w128 (of_z w128 c.args.mass) in
    let node = c.args.node.now in
    let fits : SFits w128 c.args.mass = search rules in
    let was : c.loop-child.so_far ≡ first_gathered c.match-turn.rule rows c.args.index history mass node
    (children_of node) c.loop-child.child-index =
    subst (λ (l : List Node). c.loop-child.so_far
    ≡ first_gathered c.match-turn.rule rows c.args.index history mass node l c.loop-child.child-index)
    c.children-child-items.ensures c.loop-child.invariant.so_far in
    let some = some_mass c.args.mass c.if-mass-eq0.false in
    IfOk-weaker c.finish.result (λ reply. reply ≡ finished c.match-turn.rule c.deref-2.result.now c.loop-child.so_far)
    (λ reply. reply ≡ node_least (MOST_MOVES - length history) rows c.args.index history c.args.mass node)
    (λ reply told.
    all_told rows c.args.index history c.args.mass node c.requires c.match-turn.rule c.loop-child.child-index
    c.loop-child.so_far reply c.loop-child.invariant.gathers some
    (omega (arith, c.loop-child-test.false, ap (λ (l : List Node). length l) c.children-child-items.ensures))
    (was ∙ ap (λ (z : ℤ). first_gathered c.match-turn.rule rows c.args.index history z node (children_of node)
    c.loop-child.child-index) (to_z-of_z w128 c.args.mass fits))
    (told ∙ ap (λ (h : ClassHistory). finished c.match-turn.rule h c.loop-child.so_far)
    (c.deref-2.ensures.value ∙ c.loop-child.invariant.kept)))
    c.finish.ensures

kept_if : {T E : Type 0} (result : Result T E) (P : Type 0) → P → OnOk result P
kept_if (Ok value) P holds = holds
kept_if (Err end) P holds = tt

pub returns-clause-kept : goal.returns-clause-kept
returns-clause-kept t c =
    kept_if c.finish.result (c.loop-child.history.items ≡ c.args.history.now.items) c.loop-child.invariant.kept
