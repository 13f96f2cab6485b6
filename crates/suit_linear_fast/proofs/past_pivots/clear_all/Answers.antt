use Rattle.std.proofs.Common.{arith}
use Rattle.suit_linear_fast.proofs.CellSums.{none_zero, zero_more, every_zero}
use Rattle.suit_linear_fast.proofs.past_pivots.clear_all.Goals as goal

pub loop-number-init : goal.loop-number-init
loop-number-init c = none_zero _

pub loop-number-preserved : goal.loop-number-preserved
loop-number-preserved c = zero_more c.loop-number.numbers c.loop-number.number-index (omega arith)
    c.loop-number.invariant

pub returns-clause-value : goal.returns-clause-value
returns-clause-value c = every_zero c.loop-number.numbers c.loop-number.number-index (omega arith)
    c.loop-number.invariant
