use Rattle.std.specs.Prelude.{take}
use Rattle.suit_linear_fast.specs.Sparse.{cells_of, AddsEntries}
use Rattle.suit_linear_fast.proofs.sparse.add_entries.Given as goal

abbrev pub invariant-loop-place : goal.invariant-loop-place
invariant-loop-place l = AddsEntries l.index (take l.place l.entries) (cells_of l.fn.columns.items)
    (cells_of l.columns.items)
