use Rattle.std.specs.Prelude.{take}
use Rattle.suit_linear_fast.proofs.SparseRows.{HoldParts}
use Rattle.suit_linear_fast.proofs.sparse.row_cells.Given as goal

abbrev pub invariant-loop-index : goal.invariant-loop-index
invariant-loop-index l = HoldParts l.columns l.row.bound (take l.index l.entries) l.cells.items
