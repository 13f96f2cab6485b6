use Rattle.suit_linear_fast.proofs.CellSums.{IsAdded}
use Rattle.suit_linear_fast.proofs.cells.add_multiple.Given as goal

abbrev pub invariant-loop-cell : goal.invariant-loop-cell
invariant-loop-cell l = IsAdded l.fn.numbers l.cells l.factor l.cell-index l.numbers
