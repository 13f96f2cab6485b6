use Rattle.std.proofs.Common.{arith}
use Rattle.suit_layouts.proofs.CountsAtAnIndex.{block_small, factor_small, product_all, product_more, up_to-some}
use Rattle.suit_layouts.proofs.walks.number_of_counts.Goals as goal

pub overflow_add-all : goal.overflow_add-all
overflow_add-all c =
    let small = block_small c.args.sizes.now c.loop-size.size-index c.loop-size.all _ c.loop-size-test.true
    c.loop-size.invariant (up_to-some c.args.sizes.now) in
    record { fits = omega (arith, small, c.requires) }

pub overflow_mul-all : goal.overflow_mul-all
overflow_mul-all c =
    let more = product_more c.args.sizes.now c.loop-size.size-index c.loop-size.all c.loop-size-test.true
    c.loop-size.invariant in
    record { fits = omega (arith, factor_small c.args.sizes.now _ _ _ more, c.requires) }

pub loop-size-preserved : goal.loop-size-preserved
loop-size-preserved c = product_more c.args.sizes.now c.loop-size.size-index c.loop-size.all c.loop-size-test.true
    c.loop-size.invariant

pub returns : goal.returns
returns c = product_all c.args.sizes.now c.loop-size.size-index c.loop-size.all (omega (arith, c.loop-size-test.false))
    c.loop-size.invariant
