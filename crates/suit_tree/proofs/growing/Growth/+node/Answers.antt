use Rattle.std.proofs.Common.{rules, ◌∙◌, ◌+◌, ◌-◌, ◌<◌, length, refl, ap}
use Rattle.std.proofs.Common.{arith}
use Rattle.std.specs.Prelude.{map}
use Rattle.std.proofs.lemmas.List.{take_all}
use Rattle.suit_tree.specs.declared.node.Node.TheViews.{roll-Node, out-roll-Node}
use Rattle.suit_tree.specs.Growing.{HasRoom, StandsFor, branch_seen, moves_within, pairs_from}
use Rattle.suit_tree.specs.TreeEnds.{IsPastBudget}
use Rattle.suit_tree.proofs.NodeGrowsChildByChild.{all_counted, all_grown, at_least_indices, branch_all, branch_at}
use Rattle.suit_tree.proofs.NodeGrowsChildByChild.{branch_some}
use Rattle.suit_tree.proofs.NodeGrowsChildByChild.{branches_long, goes_deeper, grown_more, none_grown, past_below}
use Rattle.suit_tree.proofs.NodeGrowsChildByChild.{past_told}
use Rattle.suit_tree.proofs.NodeGrowsChildByChild.{room_next, step_next}
use Rattle.suit_tree.proofs.growing.Growth.+node.Goals as goal

pub returns-in_err-count-clause-end : goal.returns-in_err-count-clause-end
returns-in_err-count-clause-end t c =
    let layouts = c.args.self.now.layouts.now in
    let indices = c.args.indices.now in
    let past : IsPastBudget (c.args.pairs.now + pairs_from c.args.more layouts c.args.position indices)
    c.args.self.now.budget c.in_err-count.field-0.0 =
    past_told _ _ c.in_err-count.field-0.0 c.in_err-count.ensures.end.0
    (omega (arith, c.in_err-count.ensures.end.1, at_least_indices layouts c.args.position indices c.args.more)) in
    search rules

pub loop-branch-init : goal.loop-branch-init
loop-branch-init t c = record {
  grown = none_grown c.args.self.now.layouts.now c.args.position c.args.indices.now (c.args.more - 1)
      c.in_ok-children.children.items _ c.count.new.pairs c.in_ok-children.ensures.items (omega (
        arith,
        c.in_ok-count.ensures.counted,
      ));
  within = c.in_ok-count.ensures.within;
}

pub overflow_sub-more : goal.overflow_sub-more
overflow_sub-more t c =
    let layouts = c.args.self.now.layouts.now in
    let indices = c.args.indices.now in
    let long = branches_long layouts c.args.position indices c.args.more c.deref-branch-items.result.now
    (ap (map branch_seen) c.deref-branch-items.ensures.value ∙ c.in_ok-branches.ensures) in
    omega (
      arith,
      goes_deeper layouts c.args.position indices c.args.more c.loop-branch.branch-index (omega (
        arith,
        long,
        c.loop-branch-test.true,
      )),
    )

pub node-requires : goal.node-requires
node-requires t c =
    let layouts = c.args.self.now.layouts.now in
    let indices = c.args.indices.now in
    let long = branches_long layouts c.args.position indices c.args.more c.deref-branch-items.result.now
    (ap (map branch_seen) c.deref-branch-items.ensures.value ∙ c.in_ok-branches.ensures) in
    let deeper = goes_deeper layouts c.args.position indices c.args.more c.loop-branch.branch-index (omega (
      arith,
      long,
      c.loop-branch-test.true,
    )) in
    let room : HasRoom (c.args.more - 1) c.step-next.result =
    room_next c.args.more c.args.position c.step-next.result _ c.requires.room deeper c.step-next.ensures in (
      omega (arith, c.decreases, deeper),
      (
        room,
        (
          branch_some layouts c.args.position indices c.args.more c.loop-branch.branch-index _
              (branch_at layouts c.args.position indices c.args.more c.loop-branch.branch-index
              c.deref-branch-items.result.now _ c.loop-branch-test.true
              (ap (map branch_seen) c.deref-branch-items.ensures.value ∙ c.in_ok-branches.ensures)),
          (
            branch_all layouts c.args.position indices c.args.more c.loop-branch.branch-index _ (λ index. index
                < length layouts) c.requires.indices
                (branch_at layouts c.args.position indices c.args.more c.loop-branch.branch-index
                c.deref-branch-items.result.now _ c.loop-branch-test.true
                (ap (map branch_seen) c.deref-branch-items.ensures.value ∙ c.in_ok-branches.ensures)),
            c.loop-branch.invariant.within,
          ),
        ),
      ),
    )

pub returns-in_err-child-clause-end : goal.returns-in_err-child-clause-end
returns-in_err-child-clause-end t c =
    let layouts = c.args.self.now.layouts.now in
    let indices = c.args.indices.now in
    let step_is = step_next c.args.more c.args.position c.step-next.result _ c.requires.room c.step-next.ensures in
    let past =
    past_below layouts c.args.position indices c.args.more (c.args.more - 1) c.loop-branch.branch-index _
    c.step-next.result c.loop-branch.children.items
    c.args.pairs.now (c.args.pairs.now + length indices) c.loop-branch.pairs c.args.self.now.budget
    c.in_err-child.field-0.0 refl refl step_is
    c.in_err-child.ensures.end c.loop-branch.invariant.grown
    (branch_at layouts c.args.position indices c.args.more c.loop-branch.branch-index
    c.deref-branch-items.result.now _ c.loop-branch-test.true
    (ap (map branch_seen) c.deref-branch-items.ensures.value ∙ c.in_ok-branches.ensures)) in
    search rules

pub loop-branch-preserved : goal.loop-branch-preserved
loop-branch-preserved t c =
    let layouts = c.args.self.now.layouts.now in
    let indices = c.args.indices.now in
    let step_is = step_next c.args.more c.args.position c.step-next.result _ c.requires.room c.step-next.ensures in
    record {
      grown = grown_more layouts c.args.position indices c.args.more (c.args.more - 1) c.loop-branch.branch-index _
          c.step-next.result c.in_ok-child.child
          c.loop-branch.children.items _ (c.args.pairs.now + length indices) c.loop-branch.pairs _ step_is
          c.in_ok-push.ensures.items c.in_ok-child.ensures.last
          c.in_ok-child.ensures.grown c.in_ok-child.ensures.counted c.loop-branch.invariant.grown
          (branch_at layouts c.args.position indices c.args.more c.loop-branch.branch-index
          c.deref-branch-items.result.now _ c.loop-branch-test.true
          (ap (map branch_seen) c.deref-branch-items.ensures.value ∙ c.in_ok-branches.ensures));
      within = c.in_ok-child.ensures.within;
    }

pub returns-clause-grown : goal.returns-clause-grown
returns-clause-grown t c =
    let layouts = c.args.self.now.layouts.now in
    let indices = c.args.indices.now in
    let moves = moves_within c.args.more layouts c.args.position indices in
    let long = branches_long layouts c.args.position indices c.args.more c.deref-branch-items.result.now
    (ap (map branch_seen) c.deref-branch-items.ensures.value ∙ c.in_ok-branches.ensures) in
    let all = rw (take_all c.loop-branch.branch-index moves (omega (arith, long, c.loop-branch-test.false))) at
    c.loop-branch.invariant.grown in
    let opened = out-roll-Node record {
      by = c.args.by;
      turn = c.turn.result;
      payoff = c.payoff_of.result;
      layouts = c.args.indices;
      children = record {
        ref_ptr = c.in_ok-try_alloc_slice_copy.field-0.ref_ptr;
        now = c.in_ok-try_alloc_slice_copy.field-0.now;
      };
    } in
    let stands : StandsFor c.args.position indices (roll-Node record {
      by = c.args.by;
      turn = c.turn.result;
      payoff = c.payoff_of.result;
      layouts = c.args.indices;
      children = record {
        ref_ptr = c.in_ok-try_alloc_slice_copy.field-0.ref_ptr;
        now = c.in_ok-try_alloc_slice_copy.field-0.now;
      };
    }) = record {
      turn = ap (λ node. node.turn) opened ∙ c.turn.ensures.value;
      layouts = ap (λ node. node.layouts.now) opened;
      payoff = ap (λ node. node.payoff) opened ∙ c.payoff_of.ensures;
    } in
    all_grown layouts c.args.position indices c.args.more (c.args.more - 1) c.loop-branch.children.items _ _ _ refl
    stands
    (ap (λ node. node.children.now) opened ∙ c.in_ok-try_alloc_slice_copy.ensures ∙ c.deref.ensures.value) all

pub returns-clause-counted : goal.returns-clause-counted
returns-clause-counted t c =
    let layouts = c.args.self.now.layouts.now in
    let indices = c.args.indices.now in
    let moves = moves_within c.args.more layouts c.args.position indices in
    let long = branches_long layouts c.args.position indices c.args.more c.deref-branch-items.result.now
    (ap (map branch_seen) c.deref-branch-items.ensures.value ∙ c.in_ok-branches.ensures) in
    let all = rw (take_all c.loop-branch.branch-index moves (omega (arith, long, c.loop-branch-test.false))) at
    c.loop-branch.invariant.grown in
    all_counted layouts c.args.position indices c.args.more (c.args.more - 1) c.loop-branch.children.items
    c.args.pairs.now _ _ refl refl all
