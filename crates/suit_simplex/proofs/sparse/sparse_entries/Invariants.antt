use Rattle.std.specs.Prelude.{take}
use Rattle.suit_simplex.proofs.SparsePrograms.{AreThinned}
use Rattle.suit_simplex.proofs.sparse.sparse_entries.Given as goal

abbrev pub invariant-loop-index : goal.invariant-loop-index
invariant-loop-index l = AreThinned (take l.index l.numbers) l.entries.items
