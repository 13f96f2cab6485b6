use Rattle.std.specs.Prelude.{◌≡◌, replicate, []}
use Rattle.suit_linear_fast.specs.Sparse.{cells_of}
use Rattle.suit_linear_fast.proofs.sparse.empty_columns.Given as goal

abbrev pub invariant-loop-made : goal.invariant-loop-made
invariant-loop-made l = cells_of l.columns.items ≡ replicate l.made []
