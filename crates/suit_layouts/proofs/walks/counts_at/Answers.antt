use Rattle.std.proofs.Common.{refl, arith}
use Rattle.suit_layouts.proofs.CountsAtAnIndex.{counted_all, counted_more, left_some, size_small}
use Rattle.suit_layouts.proofs.walks.counts_at.Goals as goal

pub overflow_add-left : goal.overflow_add-left
overflow_add-left c =
    let small = size_small c.args.sizes.now c.loop-size.size-index c.loop-size-test.true in
    record { fits = omega (arith, small, c.loop-size.invariant.left) }

pub nonzero_div-index : goal.nonzero_div-index
nonzero_div-index c = left_some c.args.sizes.now c.loop-size.size-index c.loop-size.left c.loop-size-test.true
    c.loop-size.invariant.left

pub nonzero_rem-index : goal.nonzero_rem-index
nonzero_rem-index c = left_some c.args.sizes.now c.loop-size.size-index c.loop-size.left c.loop-size-test.true
    c.loop-size.invariant.left

pub loop-size-preserved : goal.loop-size-preserved
loop-size-preserved c =
    let more = counted_more c.args.sizes.now c.loop-size.counts.items c.loop-size.size-index c.loop-size.index
    c.loop-size.left c.args.index _ c.loop-size-test.true c.loop-size.invariant refl in
    rw c.push.ensures.items more

pub returns : goal.returns
returns c = counted_all c.args.sizes.now c.loop-size.counts.items c.loop-size.size-index c.loop-size.index
    c.loop-size.left c.args.index (omega (arith, c.loop-size-test.false)) c.loop-size.invariant
