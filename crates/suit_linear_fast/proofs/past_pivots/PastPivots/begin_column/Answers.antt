use Rattle.std.proofs.Common.{rules, arith, ◌≡◌, refl, ◌-◌, ℕ, sym, ◌∙◌}
use Rattle.std.specs.Prelude.{FitsSigned, slice_get, Some, None, set, ℤ, List, negsuc}
use Rattle.std.specs.Int.{w64}
use Rattle.std.proofs.lemmas.Int.{to_z-of_z}
use Rattle.std.proofs.lemmas.Option.{slice_get_read, slice_get_past}
use Rattle.std.proofs.lemmas.List.{set_past}
use Rattle.suit_linear_fast.specs.Cells.{number_in}
use Rattle.suit_linear_fast.specs.declared.past_pivots.Leaver.{Leaver}
use Rattle.suit_linear_fast.specs.Replays.{AreTaken, times_in, IsProgramColumn, IsBegun}
use Rattle.suit_linear_fast.proofs.ColumnReplays.{begun_again, begun_first, begun_nowhere, program_column, no_column}
use Rattle.suit_linear_fast.proofs.past_pivots.PastPivots.begin_column.Goals as goal
use Rattle.suit_linear_fast.proofs.past_pivots.PastPivots.begin_column.Goals.{then-row-entries, else-row-entries}
use Rattle.suit_linear_fast.proofs.past_pivots.PastPivots.begin_column.Goals.{then-count-gt0+in_default, else-count-gt0}

pub returns-in-Some : goal.returns-in-Some
returns-in-Some c =
    let leaver : Leaver = c.in-Some.leaver.now in
    let entries : List ℤ = c.if-row-entries.entries in
    let found : slice_get c.args.self.now.leavers.items (c.left_count-count.result - 1) ≡ Some leaver =
    rw (← c.deref.ensures.value) (slice_get_read c.deref.result.now _ _ leaver refl c.in-Some.ensures.lookup.3.0
    c.in-Some.ensures.lookup.1) in
    let own_fits : FitsSigned w64 leaver.own = search rules in
    let taken : AreTaken entries leaver.own (times_in c.changes_of.result.now) c.take_changes.new.numbers =
    simp to_z-of_z at c.take_changes.ensures in
    let entries_is : entries ≡ set c.args.entries.now leaver.row leaver.own =
    elim c.if-row-entries.branch as (λ _. entries ≡ set c.args.entries.now leaver.row leaver.own) [
      | then-row-entries w ↦ simp to_z-of_z at w.entries-is
      | else-row-entries w ↦
          w.entries-is ∙ sym (set_past c.args.entries.now leaver.row leaver.own w.if-row-entries.false)
    ] in
    rw (← c.left_count-count.ensures)
    (begun_again c.args.sparse.now c.args.self.now c.args.column c.left_count-count.result leaver c.args.entries.now
    entries c.take_changes.new.numbers c.if-count-gt0.true found entries_is (rw c.changes_of.ensures at taken))

pub returns-in-Some-get : goal.returns-in-Some-get
returns-in-Some-get c =
    let count : ℕ = c.left_count-count.result in
    let before : List ℤ = c.args.entries.now in
    let after : List ℤ = c.take_multiple.new.numbers in
    let found : slice_get c.args.sparse.now.columns.items c.args.column ≡ Some c.in-Some-get.cells.now =
    rw (← c.deref-2.ensures.value) (slice_get_read c.deref-2.result.now _ _ c.in-Some-get.cells.now refl
    c.in-Some-get.ensures.lookup.3.0 c.in-Some-get.ensures.lookup.1) in
    let taken : AreTaken before (negsuc 0) (number_in c.in-Some-get.cells.now.items) after =
    rw (← c.deref-in-Some-get.ensures.value) c.take_multiple.ensures in
    let program : IsProgramColumn c.args.sparse.now c.args.column before after =
    program_column c.args.sparse.now c.args.column c.in-Some-get.cells.now before after found taken in
    rw (← c.left_count-count.ensures)
    (elim c.if-count-gt0.branch as
    (λ _. IsBegun c.args.sparse.now c.args.self.now c.args.column count 0 before after) [
      | then-count-gt0+in_default w ↦
          begun_nowhere c.args.sparse.now c.args.self.now c.args.column count before after w.if-count-gt0.true
          (rw (← w.deref.ensures.value) (slice_get_past w.deref.result.now _ w.in_default.ensures.lookup.3)) program
      | else-count-gt0 w ↦
          let low = w.if-count-gt0.false in
          begun_first c.args.sparse.now c.args.self.now c.args.column count before after (omega arith) program
    ])

pub returns-in_default-get : goal.returns-in_default-get
returns-in_default-get c =
    let count : ℕ = c.left_count-count.result in
    let before : List ℤ = c.args.entries.now in
    let found : slice_get c.args.sparse.now.columns.items c.args.column ≡ None =
    rw (← c.deref-2.ensures.value) (slice_get_past c.deref-2.result.now _ c.in_default-get.ensures.lookup.3) in
    let program : IsProgramColumn c.args.sparse.now c.args.column before before =
    no_column c.args.sparse.now c.args.column before found in
    rw (← c.left_count-count.ensures)
    (elim c.if-count-gt0.branch as
    (λ _. IsBegun c.args.sparse.now c.args.self.now c.args.column count 0 before before) [
      | then-count-gt0+in_default w ↦
          begun_nowhere c.args.sparse.now c.args.self.now c.args.column count before before w.if-count-gt0.true
          (rw (← w.deref.ensures.value) (slice_get_past w.deref.result.now _ w.in_default.ensures.lookup.3)) program
      | else-count-gt0 w ↦
          let low = w.if-count-gt0.false in
          begun_first c.args.sparse.now c.args.self.now c.args.column count before before (omega arith) program
    ])
