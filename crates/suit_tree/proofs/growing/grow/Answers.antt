use Rattle.std.proofs.Common.{rules, ◌≡◌, ◌∙◌, ◌<◌, [], length, ap, arith}
use Rattle.std.specs.List.{range_with_len}
use Rattle.std.proofs.lemmas.List.FromFn.{length-range_with_len}
use Rattle.suit_tree.specs.WhatIsCounted.{node_count}
use Rattle.suit_tree.specs.TreeEnds.{IsPastBudget}
use Rattle.suit_tree.specs.Trees.{layout_indices}
use Rattle.suit_classes.proofs.DefenceSizes.{range_below}
use Rattle.suit_classes.specs.Classes.{sizes_of}
use Rattle.suit_tree.proofs.NodeGrowsChildByChild.{past_more}
use Rattle.suit_tree.proofs.OneNodeAtEachPath.{some_listed}
use Rattle.suit_tree.proofs.GrownIsCounted.{allowing_first, grown_is_tree}
use Rattle.suit_tree.proofs.HowManyPairs.{all_pairs_counted}
use Rattle.suit_tree.proofs.growing.grow.Goals as goal
use Rattle.suit_layouts.specs.ClassLayouts.{class_layouts}
use Rattle.suit_game.specs.declared.limits.TheConstants.{MOST_MOVES}

pub node-requires-clause-room : goal.node-requires-clause-room
node-requires-clause-room c =
    record { question = c.args.question.now; history = []; short = omega arith; after = c.start-start.ensures }

pub node-requires-clause-indices : goal.node-requires-clause-indices
node-requires-clause-indices c =
    let long : length c.deref.result.now ≡ c.len.result = omega (arith, c.deref.ensures.len, c.len.ensures) in
    rw (c.in_ok-all.ensures.indices, long) (range_below c.len.result)

pub node-requires-clause-some : goal.node-requires-clause-some
node-requires-clause-some c =
    let some = some_listed c.args.question.now c.requires in
    let many : 0 < length (range_with_len 0 c.len.result) =
    omega (
      arith,
      length-range_with_len 0 c.len.result,
      c.len.ensures,
      c.in_ok-layouts.layouts.ok.0,
      ap length c.in_ok-layouts.ensures.layouts,
      some,
    ) in
    rw c.in_ok-all.ensures.indices many

pub returns-in_err-root-clause-end : goal.returns-in_err-root-clause-end
returns-in_err-root-clause-end c =
    let indices : c.in_ok-all.all.now
    ≡ layout_indices (class_layouts c.args.question.now (sizes_of c.args.question.now)) =
    c.in_ok-all.ensures.indices ∙ ap (range_with_len 0) (omega (
      arith,
      c.len.ensures,
      c.in_ok-layouts.layouts.ok.0,
      ap length c.in_ok-layouts.ensures.layouts,
    )) in
    let told = rw (
      c.deref.ensures.value,
      c.in_ok-layouts.ensures.layouts,
      indices,
      c.start-start.ensures,
      all_pairs_counted c.args.question.now,
    ) at c.in_err-root.ensures.end in
    let past : IsPastBudget (node_count c.args.question.now) c.args.question.now.nodes c.in_err-root.field-0.0 =
    past_more _ _ _ c.in_err-root.field-0.0 (omega arith) told in
    search rules

pub returns-clause-tree : goal.returns-clause-tree
returns-clause-tree c =
    let indices : c.in_ok-all.all.now
    ≡ layout_indices (class_layouts c.args.question.now (sizes_of c.args.question.now)) =
    c.in_ok-all.ensures.indices ∙ ap (range_with_len 0) (omega (
      arith,
      c.len.ensures,
      c.in_ok-layouts.layouts.ok.0,
      ap length c.in_ok-layouts.ensures.layouts,
    )) in
    let grown = rw (
      c.deref.ensures.value,
      c.in_ok-layouts.ensures.layouts,
      indices,
      c.start-start.ensures,
    ) at c.in_ok-root.ensures.grown in
    let counted = rw (
      c.deref.ensures.value,
      c.in_ok-layouts.ensures.layouts,
      indices,
      c.start-start.ensures,
      all_pairs_counted c.args.question.now,
    ) at c.in_ok-root.ensures.counted in
    record {
      layouts = c.in_ok-layouts.ensures.layouts;
      top = c.in_ok-root.ensures.last;
      nodes = grown_is_tree MOST_MOVES c.args.question.now [] c.in_ok-root.root (rw (allowing_first c.args.question.now) grown);
      pairs = omega (arith, counted);
    }

pub returns-clause-within : goal.returns-clause-within
returns-clause-within c =
    let indices : c.in_ok-all.all.now
    ≡ layout_indices (class_layouts c.args.question.now (sizes_of c.args.question.now)) =
    c.in_ok-all.ensures.indices ∙ ap (range_with_len 0) (omega (
      arith,
      c.len.ensures,
      c.in_ok-layouts.layouts.ok.0,
      ap length c.in_ok-layouts.ensures.layouts,
    )) in
    let counted = rw (
      c.deref.ensures.value,
      c.in_ok-layouts.ensures.layouts,
      indices,
      c.start-start.ensures,
      all_pairs_counted c.args.question.now,
    ) at c.in_ok-root.ensures.counted in
    omega (arith, counted, c.in_ok-root.ensures.within)
