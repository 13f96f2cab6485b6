use Rattle.suit_linear.specs.Sparse.{dense}
use Rattle.suit_linear_fast.proofs.SparsePrograms.{AreRowsBelow}
use Rattle.suit_linear_fast.proofs.sparse.sparse_rows.Given as goal

abbrev pub invariant-loop-index : goal.invariant-loop-index
invariant-loop-index l = AreRowsBelow (dense l.program) l.index l.rows.items
