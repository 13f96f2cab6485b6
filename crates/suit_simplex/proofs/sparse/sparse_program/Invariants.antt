use Rattle.std.specs.Prelude.{◌≡◌, map, take, length}
use Rattle.suit_linear.specs.Sparse.{dense_row}
use Rattle.suit_simplex.proofs.sparse.sparse_program.Given as goal

abbrev pub invariant-loop-index : goal.invariant-loop-index
invariant-loop-index l = map (dense_row (length l.program.costs)) l.rows.items ≡ take l.index l.program.rows
