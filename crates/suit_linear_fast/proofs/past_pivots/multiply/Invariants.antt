use Rattle.std.proofs.Common.{take}
use Rattle.suit_linear_fast.specs.Replays.{AreMultiplied, factor_in}
use Rattle.suit_linear_fast.proofs.past_pivots.multiply.Given as goal

abbrev pub invariant-loop-cell : goal.invariant-loop-cell
invariant-loop-cell l = AreMultiplied l.fn.numbers (factor_in (take l.cell-index l.cells)) l.numbers
