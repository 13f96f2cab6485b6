use Rattle.std.specs.Prelude.{◌≡◌, map, Vec}
use Rattle.std.specs.Global.{Global}
use Rattle.suit_linear.specs.declared.sparse.Entry.{Entry}
use Rattle.suit_program.specs.Walks.LedgerOf.{sparse_row}
use Rattle.suit_program.proofs.programs.rows_of.Given as goal

abbrev pub invariant-loop-entries : goal.invariant-loop-entries
invariant-loop-entries l = l.rows.items ≡ map (λ (entries : Vec Entry Global). sparse_row entries.items) l.yielded
