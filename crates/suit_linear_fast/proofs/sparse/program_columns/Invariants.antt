use Rattle.std.specs.Prelude.{map}
use Rattle.suit_linear.specs.Sparse.{dense_row}
use Rattle.suit_linear_fast.specs.Sparse.{cells_of}
use Rattle.suit_linear_fast.proofs.SparseColumns.{AreHeld}
use Rattle.suit_linear_fast.proofs.sparse.program_columns.Given as goal

abbrev pub invariant-loop-index : goal.invariant-loop-index
invariant-loop-index l = AreHeld (map (dense_row l.count) l.rows) l.count l.index (cells_of l.columns.items)
