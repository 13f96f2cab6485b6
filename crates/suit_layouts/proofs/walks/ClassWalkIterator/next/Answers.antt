use Rattle.std.proofs.Common.{length, sym, ap, ◌∙◌, arith}
use Rattle.suit_layouts.proofs.WhatAWalkYields.{blocks_few, walk_on, weighed_none, weighed_skips, weighed_yields}
use Rattle.suit_layouts.proofs.walks.ClassWalkIterator.next.Goals as goal

pub counts_at-counts-requires-clause-few : goal.counts_at-counts-requires-clause-few
counts_at-counts-requires-clause-few c =
    blocks_few c.loop-self.self-inside.question.now c.loop-self.self-inside.sizes.now c.loop-self.invariant.walk.blocks

pub returns-then-weight-gt0-clause-steps : goal.returns-then-weight-gt0-clause-steps
returns-then-weight-gt0-clause-steps c =
    let deals = rw c.as_slice.ensures.value at c.class_weight-weight.ensures in
    rw c.of.ensures (weighed_yields c.loop-self.self-inside.question.now c.loop-self.self-inside.sizes.now
    c.loop-self.self-inside.index c.loop-self.self-inside.all c.args.self.now
    c.counts_at-counts.result.items c.class_weight-weight.result
    (record {
      walk = c.loop-self.invariant.walk;
      further = c.loop-self-test.true;
      left_is = c.loop-self.invariant.left;
      counts_are = c.counts_at-counts.ensures;
      deals_are = deals;
    })
    c.if-weight-gt0.true)

pub returns-then-weight-gt0-clause-goes : goal.returns-then-weight-gt0-clause-goes
returns-then-weight-gt0-clause-goes c =
    let deals = rw c.as_slice.ensures.value at c.class_weight-weight.ensures in
    let split = weighed_yields c.loop-self.self-inside.question.now c.loop-self.self-inside.sizes.now
    c.loop-self.self-inside.index c.loop-self.self-inside.all c.args.self.now
    c.counts_at-counts.result.items c.class_weight-weight.result
    (record {
      walk = c.loop-self.invariant.walk;
      further = c.loop-self-test.true;
      left_is = c.loop-self.invariant.left;
      counts_are = c.counts_at-counts.ensures;
      deals_are = deals;
    })
    c.if-weight-gt0.true in
    record { on = λ finite. (tt, tt, omega (arith, ap length split)); keeps = tt; rests = λ finite. tt }

pub loop-self-preserved : goal.loop-self-preserved
loop-self-preserved c =
    let deals = rw c.as_slice.ensures.value at c.class_weight-weight.ensures in
    record {
      walk = walk_on c.loop-self.self-inside.question.now c.loop-self.self-inside.sizes.now
          c.loop-self.self-inside.index c.loop-self.self-inside.all c.loop-self.invariant.walk c.loop-self-test.true;
      left = weighed_skips c.loop-self.self-inside.question.now c.loop-self.self-inside.sizes.now
          c.loop-self.self-inside.index c.loop-self.self-inside.all c.args.self.now
          c.counts_at-counts.result.items c.class_weight-weight.result
          (record {
            walk = c.loop-self.invariant.walk;
            further = c.loop-self-test.true;
            left_is = c.loop-self.invariant.left;
            counts_are = c.counts_at-counts.ensures;
            deals_are = deals;
          })
          (omega (arith, c.if-weight-gt0.false));
    }

pub returns-clause-steps : goal.returns-clause-steps
returns-clause-steps c =
    let none = weighed_none c.loop-self.self-inside.question.now c.loop-self.self-inside.sizes.now
    c.loop-self.self-inside.index (omega (arith, c.loop-self-test.false, c.loop-self.invariant.walk.all_of)) in
    (sym c.loop-self.invariant.left ∙ none, none)
