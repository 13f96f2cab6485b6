use Rattle.std.proofs.Common.{length, ap, arith}
use Rattle.suit_layouts.proofs.FewCounts.{class_layouts_few, up_to_few}
use Rattle.suit_layouts.proofs.WhatAWalkYields.{weighed_all}
use Rattle.suit_layouts.proofs.walks.ClassWalk.new.Goals as goal

pub number_of_counts-requires : goal.number_of_counts-requires
number_of_counts-requires c =
    up_to_few c.args.sizes.now (omega (arith, c.requires.blocks.filled, c.requires.blocks.few))

pub returns-clause-value : goal.returns-clause-value
returns-clause-value c = weighed_all c.args.question.now c.args.sizes.now

pub returns-clause-few : goal.returns-clause-few
returns-clause-few c =
    omega (
      arith,
      ap length (weighed_all c.args.question.now c.args.sizes.now),
      class_layouts_few c.args.question.now c.args.sizes.now c.requires.blocks,
    )
