use Rattle.std.proofs.Common.{rules, arith, length, get_or, Vec, Global}
use Rattle.std.specs.Prelude.{FitsSigned, pos, ◌<◌, ◌≤◌}
use Rattle.std.specs.Int.{w64}
use Rattle.std.proofs.lemmas.Int.{to_z-of_z}
use Rattle.std.proofs.lemmas.List.{length-map}
use Rattle.suit_linear.specs.declared.sparse.Entry.{Entry}
use Rattle.suit_linear_fast.specs.declared.cells.Cell.{Cell}
use Rattle.suit_linear_fast.specs.Sparse.{cells_of}
use Rattle.suit_linear_fast.proofs.SparseColumns.{none_added, entry_added, entry_past}
use Rattle.suit_linear_fast.proofs.sparse.add_entries.Goals as goal
use Rattle.suit_linear_fast.proofs.sparse.add_entries.Goals.{then-column-len+in_ok-push_at, else-column-len}

pub loop-place-init : goal.loop-place-init
loop-place-init c = none_added c.args.index c.args.entries.now (cells_of c.args.columns.now.items)

pub loop-place-preserved : goal.loop-place-preserved
loop-place-preserved c =
    elim c.if-column-len.branch [
      | then-column-len+in_ok-push_at w ↦
          let entry : Entry = get_or c.args.entries.now c.loop-place.place (record { column = 0; number = pos 0 }) in
          let number_fits : FitsSigned w64 entry.number = search rules in
          let within : entry.column < length (cells_of c.loop-place.columns.items) =
          omega (
            arith,
            length-map c.loop-place.columns.items (λ (v : Vec Cell Global). v.items),
            c.len.ensures,
            c.loop-place.columns.ok.0,
            w.if-column-len.true,
          ) in
          rw w.columns-is
          (entry_added c.args.index c.loop-place.place c.args.entries.now (record { column = 0; number = pos 0 })
          (cells_of c.args.columns.now.items) (cells_of c.loop-place.columns.items)
          (cells_of w.push_at.new.columns.items) c.loop-place-test.true within c.loop-place.invariant
          (simp to_z-of_z at w.in_ok-push_at.ensures))
      | else-column-len w ↦
          let entry : Entry = get_or c.args.entries.now c.loop-place.place (record { column = 0; number = pos 0 }) in
          let past : length (cells_of c.loop-place.columns.items) ≤ entry.column =
          omega (
            arith,
            length-map c.loop-place.columns.items (λ (v : Vec Cell Global). v.items),
            c.len.ensures,
            c.loop-place.columns.ok.0,
            w.if-column-len.false,
          ) in
          rw w.columns-is
          (entry_past c.args.index c.loop-place.place c.args.entries.now (record { column = 0; number = pos 0 })
          (cells_of c.args.columns.now.items) (cells_of c.loop-place.columns.items) c.loop-place-test.true past
          c.loop-place.invariant)
    ]
