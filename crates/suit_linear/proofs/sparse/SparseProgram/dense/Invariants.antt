use Rattle.std.specs.Prelude.{◌≡◌, map, take}
use Rattle.suit_linear.specs.Sparse.{dense_row}
use Rattle.suit_linear.proofs.sparse.SparseProgram.dense.Given as goal

abbrev pub invariant-loop-row : goal.invariant-loop-row
invariant-loop-row l = l.rows.items ≡ map (dense_row l.columns) (take l.row-index l.row-items)
