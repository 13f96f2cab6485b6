use Rattle.std.specs.Prelude.{◌+◌, length}
use Rattle.suit_linear.specs.Sparse.{dense}
use Rattle.suit_linear_fast.proofs.SparsePrograms.{AreColumnsBelow}
use Rattle.suit_linear_fast.proofs.sparse.sparse_columns.Given as goal

abbrev pub invariant-loop-index : goal.invariant-loop-index
invariant-loop-index l = AreColumnsBelow (dense l.program) (length l.program.costs + l.index) l.columns.items
