use Rattle.std.proofs.Common.{take}
use Rattle.suit_linear_fast.specs.Cells.{number_in}
use Rattle.suit_linear_fast.specs.Replays.{AreTaken}
use Rattle.suit_linear_fast.proofs.past_pivots.take_multiple.Given as goal

abbrev pub invariant-loop-cell : goal.invariant-loop-cell
invariant-loop-cell l = AreTaken l.fn.numbers l.times (number_in (take l.cell-index l.cells)) l.numbers
