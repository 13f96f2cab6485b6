use Rattle.std.proofs.Common.{arith}
use Rattle.suit_layouts.proofs.WeightsAreSmall.{counts_few, deals_fit, none_weighs, weighs}
use Rattle.suit_layouts.proofs.class_weights.class_weight.Goals as goal

pub returns-then-ways-eq0 : goal.returns-then-ways-eq0
returns-then-ways-eq0 c =
    none_weighs c.args.question.now c.args.sizes.now c.args.counts.now c.ways-ways.result c.requires.blocks
    c.ways-ways.ensures.value c.if-ways-eq0.true

pub west_len-requires : goal.west_len-requires
west_len-requires c =
    counts_few c.args.question.now c.args.sizes.now c.args.counts.now c.ways-ways.result c.requires.blocks
    c.ways-ways.ensures.value c.if-ways-eq0.false

pub overflow_mul-result : goal.overflow_mul-result
overflow_mul-result c =
    let small = deals_fit c.args.question.now c.args.sizes.now _ c.ways-ways.result c.weight.result c.requires.valid
    c.requires.blocks c.ways-ways.ensures.small c.weight.ensures in
    record { fits = omega (arith, small) }

pub returns : goal.returns
returns c =
    weighs c.args.question.now c.args.sizes.now c.args.counts.now c.ways-ways.result c.west_len.result c.weight.result
    c.requires.blocks c.ways-ways.ensures.value c.west_len.ensures c.weight.ensures
