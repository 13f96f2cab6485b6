use Rattle.std.proofs.Common.{arith, rules}
use Rattle.suit_linear_fast.proofs.CellSums.{none_zero, zero_seen, every_zero, zero_bits64}
use Rattle.suit_linear_fast.proofs.cells.all_zero.Goals as goal

pub loop-number-init : goal.loop-number-init
loop-number-init c = none_zero _

pub loop-number-preserved : goal.loop-number-preserved
loop-number-preserved c = zero_seen c.args.numbers.now c.loop-number.number-index
    (zero_bits64 _ (search rules) c.if-number-ne0.false) c.loop-number.invariant

pub returns : goal.returns
returns c = λ t. every_zero c.args.numbers.now c.loop-number.number-index (omega arith) c.loop-number.invariant
