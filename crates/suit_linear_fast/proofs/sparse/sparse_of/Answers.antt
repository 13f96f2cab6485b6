use Rattle.suit_linear.specs.Sparse.{dense}
use Rattle.suit_linear_fast.proofs.SparsePrograms.{sparse_is}
use Rattle.suit_linear_fast.proofs.sparse.sparse_of.Goals as goal

pub returns : goal.returns
returns c = sparse_is (dense c.args.program.now) _ c.requires (rw c.in-Some.is at c.in_ok-rows.ensures)
    c.in_ok-columns.ensures
