use Rattle.std.proofs.Common.{rules, ◌≡◌, ◌≢◌, ◌∙◌, ◌+◌, ◌-◌, take, drop, length, refl, arith, sym, ap, All, List}
use Rattle.std.proofs.Common.{length-take, length-drop}
use Rattle.std.specs.Prelude.{FitsSigned, pos, ℤ}
use Rattle.std.specs.Int.{w128, cast_unsigned}
use Rattle.std.proofs.lemmas.Int.{to_z-of_z}
use Rattle.std.proofs.lemmas.List.Elements.{All-take, All-drop}
use Rattle.suit_num.specs.Narrow.{IsNarrow}
use Rattle.suit_linear.specs.Tableaus.{TableauRow, entry}
use Rattle.suit_simplex.specs.Dense.{row_at, leaver_row, seen, with_row}
use Rattle.std.specs.Prelude.{OnOk}
use Rattle.suit_linear.specs.Pivots.{cleared}
use Rattle.suit_linear.proofs.CommonDivisors.{zero_bits}
use Rattle.suit_simplex.proofs.PivotOfARow.{row_leaves, row_stays, row_is_cleared, seen_same, seen_with_basic}
use Rattle.suit_simplex.proofs.PivotOfARow.{seen_with_part, kept_with_part, with_part, part_written, part_is}
use Rattle.suit_simplex.proofs.PivotOfARow.{behind_first, basic_read, pivot_read, on_ok}
use Rattle.suit_simplex.proofs.dense.Dense.pivot_row.Goals as goal

pub returns-then-index-leaving-clause-fits : goal.returns-then-index-leaving-clause-fits
returns-then-index-leaving-clause-fits c =
    let basic : (row_at c.args.self.now c.args.index).basic ≡ c.args.leaving =
    sym (basic_read _ c.args.index _ c.requires.within c.index.ensures) ∙ c.if-index-leaving.true in (
      λ t. rw (row_leaves c.args.column (leaver_row c.args.self.now c.args.leaving)
          (row_at c.args.self.now c.args.index)
          basic).1 refl,
      λ h. refl,
    )

pub returns-then-index-leaving-clause-row : goal.returns-then-index-leaving-clause-row
returns-then-index-leaving-clause-row c =
    let basic : (row_at c.args.self.now c.args.index).basic ≡ c.args.leaving =
    sym (basic_read _ c.args.index _ c.requires.within c.index.ensures) ∙ c.if-index-leaving.true in
    rw (row_leaves c.args.column (leaver_row c.args.self.now c.args.leaving) (row_at c.args.self.now c.args.index)
    basic).0
    (seen_with_basic c.args.self.now _ c.args.index c.args.column c.requires.within refl refl refl)

pub returns-then-entry-eq0-clause-fits : goal.returns-then-entry-eq0-clause-fits
returns-then-entry-eq0-clause-fits c =
    let basic : (row_at c.args.self.now c.args.index).basic ≢ c.args.leaving =
    λ same. c.if-index-leaving.false (basic_read _ c.args.index _ c.requires.within c.index.ensures ∙ same) in
    let fits : FitsSigned w128 c.entry-entry.result = search rules in
    let none : entry (row_at c.args.self.now c.args.index) c.args.column ≡ pos 0 = sym c.entry-entry.ensures.value
    ∙ zero_bits _ fits c.if-entry-eq0.true in (
      λ t. rw (row_stays c.args.column (leaver_row c.args.self.now c.args.leaving) (row_at c.args.self.now c.args.index)
          basic none).1 refl,
      λ h. refl,
    )

pub returns-then-entry-eq0-clause-row : goal.returns-then-entry-eq0-clause-row
returns-then-entry-eq0-clause-row c =
    let basic : (row_at c.args.self.now c.args.index).basic ≢ c.args.leaving =
    λ same. c.if-index-leaving.false (basic_read _ c.args.index _ c.requires.within c.index.ensures ∙ same) in
    let fits : FitsSigned w128 c.entry-entry.result = search rules in
    let none : entry (row_at c.args.self.now c.args.index) c.args.column ≡ pos 0 = sym c.entry-entry.ensures.value
    ∙ zero_bits _ fits c.if-entry-eq0.true in
    rw (row_stays c.args.column (leaver_row c.args.self.now c.args.leaving) (row_at c.args.self.now c.args.index) basic
    none).0
    (seen_same c.args.self.now c.args.index c.requires.within)

pub clear-requires-clause-narrow : goal.clear-requires-clause-narrow
clear-requires-clause-narrow c =
    let whole : c.deref_mut.result.now ≡ c.args.self.now.numbers.items = c.deref_mut.ensures.value in
    rw whole (All-take IsNarrow _ _ (All-drop IsNarrow _ _ c.requires.kept.narrow))

pub clear-requires-clause-positive : goal.clear-requires-clause-positive
clear-requires-clause-positive c =
    let pivot_fits : FitsSigned w128 c.index-pivot.result.now = search rules in
    let pivot : c.index-pivot.result.now ≡ entry (leaver_row c.args.self.now c.args.leaving) c.args.column =
    pivot_read c.args.self.now.leaver.items c.args.column c.index-pivot.result.now (omega (
      arith,
      c.requires.kept.room,
    )) c.index-pivot.ensures in
    simp to_z-of_z (rw pivot c.requires.positive)

pub clear-requires-clause-some : goal.clear-requires-clause-some
clear-requires-clause-some c =
    let basic : (row_at c.args.self.now c.args.index).basic ≢ c.args.leaving =
    λ same. c.if-index-leaving.false (basic_read _ c.args.index _ c.requires.within c.index.ensures ∙ same) in
    let entry_fits : FitsSigned w128 c.entry-entry.result = search rules in
    let pivot_fits : FitsSigned w128 c.index-pivot.result.now = search rules in
    let whole : c.deref_mut.result.now ≡ c.args.self.now.numbers.items = c.deref_mut.ensures.value in
    let part : take (c.start-start.result + c.args.self.now.width - c.start-start.result)
    (drop c.start-start.result c.args.self.now.numbers.items) ≡ (row_at c.args.self.now c.args.index).numbers =
    part_is _ c.start-start.result c.args.self.now.width c.args.index c.start-start.ensures.value in
    let copied : c.deref.result.now ≡ c.args.self.now.leaver.items = c.deref.ensures.value in
    let behind : take (length c.args.self.now.leaver.items - 1) (drop 1 c.args.self.now.leaver.items)
    ≡ drop 1 c.args.self.now.leaver.items = behind_first c.args.self.now.leaver.items in
    let pivot : c.index-pivot.result.now ≡ entry (leaver_row c.args.self.now c.args.leaving) c.args.column =
    pivot_read c.args.self.now.leaver.items c.args.column c.index-pivot.result.now (omega (
      arith,
      c.requires.kept.room,
    )) c.index-pivot.ensures in
    let value : c.entry-entry.result ≡ entry (row_at c.args.self.now c.args.index) c.args.column =
    c.entry-entry.ensures.value in
    simp to_z-of_z (rw (whole, part, copied, behind, pivot, value) (c.requires.some basic))

pub returns-clause-fits : goal.returns-clause-fits
returns-clause-fits c =
    let basic : (row_at c.args.self.now c.args.index).basic ≢ c.args.leaving =
    λ same. c.if-index-leaving.false (basic_read _ c.args.index _ c.requires.within c.index.ensures ∙ same) in
    let entry_fits : FitsSigned w128 c.entry-entry.result = search rules in
    let pivot_fits : FitsSigned w128 c.index-pivot.result.now = search rules in
    let whole : c.deref_mut.result.now ≡ c.args.self.now.numbers.items = c.deref_mut.ensures.value in
    let part : take (c.start-start.result + c.args.self.now.width - c.start-start.result)
    (drop c.start-start.result c.args.self.now.numbers.items) ≡ (row_at c.args.self.now c.args.index).numbers =
    part_is _ c.start-start.result c.args.self.now.width c.args.index c.start-start.ensures.value in
    let copied : c.deref.result.now ≡ c.args.self.now.leaver.items = c.deref.ensures.value in
    let behind : take (length c.args.self.now.leaver.items - 1) (drop 1 c.args.self.now.leaver.items)
    ≡ drop 1 c.args.self.now.leaver.items = behind_first c.args.self.now.leaver.items in
    let pivot : c.index-pivot.result.now ≡ entry (leaver_row c.args.self.now c.args.leaving) c.args.column =
    pivot_read c.args.self.now.leaver.items c.args.column c.index-pivot.result.now (omega (
      arith,
      c.requires.kept.room,
    )) c.index-pivot.ensures in
    let value : c.entry-entry.result ≡ entry (row_at c.args.self.now c.args.index) c.args.column =
    c.entry-entry.ensures.value in
    let some : entry (row_at c.args.self.now c.args.index) c.args.column ≢ pos 0 =
    λ none. c.if-entry-eq0.false (ap (cast_unsigned w128) (value ∙ none)) in
    let is = row_is_cleared c.args.column (leaver_row c.args.self.now c.args.leaving)
    (row_at c.args.self.now c.args.index) basic some in
    rw is.1 (rw (whole, part, copied, behind, pivot, value) at (simp to_z-of_z at c.clear.ensures.fits))

pub returns-clause-row : goal.returns-clause-row
returns-clause-row c =
    let basic : (row_at c.args.self.now c.args.index).basic ≢ c.args.leaving =
    λ same. c.if-index-leaving.false (basic_read _ c.args.index _ c.requires.within c.index.ensures ∙ same) in
    let entry_fits : FitsSigned w128 c.entry-entry.result = search rules in
    let pivot_fits : FitsSigned w128 c.index-pivot.result.now = search rules in
    let whole : c.deref_mut.result.now ≡ c.args.self.now.numbers.items = c.deref_mut.ensures.value in
    let part : take (c.start-start.result + c.args.self.now.width - c.start-start.result)
    (drop c.start-start.result c.args.self.now.numbers.items) ≡ (row_at c.args.self.now c.args.index).numbers =
    part_is _ c.start-start.result c.args.self.now.width c.args.index c.start-start.ensures.value in
    let copied : c.deref.result.now ≡ c.args.self.now.leaver.items = c.deref.ensures.value in
    let behind : take (length c.args.self.now.leaver.items - 1) (drop 1 c.args.self.now.leaver.items)
    ≡ drop 1 c.args.self.now.leaver.items = behind_first c.args.self.now.leaver.items in
    let pivot : c.index-pivot.result.now ≡ entry (leaver_row c.args.self.now c.args.leaving) c.args.column =
    pivot_read c.args.self.now.leaver.items c.args.column c.index-pivot.result.now (omega (
      arith,
      c.requires.kept.room,
    )) c.index-pivot.ensures in
    let value : c.entry-entry.result ≡ entry (row_at c.args.self.now c.args.index) c.args.column =
    c.entry-entry.ensures.value in
    let some : entry (row_at c.args.self.now c.args.index) c.args.column ≢ pos 0 =
    λ none. c.if-entry-eq0.false (ap (cast_unsigned w128) (value ∙ none)) in
    let is = row_is_cleared c.args.column (leaver_row c.args.self.now c.args.leaving)
    (row_at c.args.self.now c.args.index) basic some in
    let width : c.start-start.result + c.args.self.now.width - c.start-start.result ≡ c.args.self.now.width =
    omega arith in
    let room = c.start-start.ensures.row c.requires.within in
    let length_is : length c.clear.new.numbers ≡ c.args.self.now.width = c.clear.auto.numbers
    ∙ simp (length-take, length-drop) (omega (arith, ap length whole)) in
    let clean : OnOk c.clear.result (c.clear.new.numbers
    ≡ cleared (entry (leaver_row c.args.self.now c.args.leaving) c.args.column)
    (entry (row_at c.args.self.now c.args.index) c.args.column) (row_at c.args.self.now c.args.index).numbers
    (leaver_row c.args.self.now c.args.leaving).numbers) = rw (
      whole,
      part,
      copied,
      behind,
      pivot,
      value,
    ) at (simp to_z-of_z at c.clear.ensures.value) in
    on_ok c.clear.result
    (λ (v : c.clear.new.numbers
    ≡ cleared (entry (leaver_row c.args.self.now c.args.leaving) c.args.column)
    (entry (row_at c.args.self.now c.args.index) c.args.column) (row_at c.args.self.now c.args.index).numbers
    (leaver_row c.args.self.now c.args.leaving).numbers).
    seen_with_part c.args.self.now
    (with_part c.args.self.now c.start-start.result (c.start-start.result
    + c.args.self.now.width - c.start-start.result) c.deref_mut.result.now c.clear.new.numbers) c.args.index
    c.start-start.result (c.start-start.result + c.args.self.now.width - c.start-start.result)
    c.deref_mut.result.now c.clear.new.numbers c.requires.kept c.requires.within c.start-start.ensures.value
    length_is whole width refl refl
    (part_written c.args.self.now c.start-start.result (c.start-start.result
    + c.args.self.now.width - c.start-start.result) c.deref_mut.result.now c.clear.new.numbers whole (omega arith)
    (length_is ∙ sym width))
    ∙ ap (λ (row : TableauRow). with_row (seen c.args.self.now) c.args.index row)
    (ap (λ (ys : List ℤ). let r : TableauRow = record (row_at c.args.self.now c.args.index) { numbers = ys } in r) v
    ∙ sym is.0))
    clean

pub returns-clause-kept : goal.returns-clause-kept
returns-clause-kept c =
    let basic : (row_at c.args.self.now c.args.index).basic ≢ c.args.leaving =
    λ same. c.if-index-leaving.false (basic_read _ c.args.index _ c.requires.within c.index.ensures ∙ same) in
    let entry_fits : FitsSigned w128 c.entry-entry.result = search rules in
    let pivot_fits : FitsSigned w128 c.index-pivot.result.now = search rules in
    let whole : c.deref_mut.result.now ≡ c.args.self.now.numbers.items = c.deref_mut.ensures.value in
    let part : take (c.start-start.result + c.args.self.now.width - c.start-start.result)
    (drop c.start-start.result c.args.self.now.numbers.items) ≡ (row_at c.args.self.now c.args.index).numbers =
    part_is _ c.start-start.result c.args.self.now.width c.args.index c.start-start.ensures.value in
    let copied : c.deref.result.now ≡ c.args.self.now.leaver.items = c.deref.ensures.value in
    let behind : take (length c.args.self.now.leaver.items - 1) (drop 1 c.args.self.now.leaver.items)
    ≡ drop 1 c.args.self.now.leaver.items = behind_first c.args.self.now.leaver.items in
    let pivot : c.index-pivot.result.now ≡ entry (leaver_row c.args.self.now c.args.leaving) c.args.column =
    pivot_read c.args.self.now.leaver.items c.args.column c.index-pivot.result.now (omega (
      arith,
      c.requires.kept.room,
    )) c.index-pivot.ensures in
    let value : c.entry-entry.result ≡ entry (row_at c.args.self.now c.args.index) c.args.column =
    c.entry-entry.ensures.value in
    let some : entry (row_at c.args.self.now c.args.index) c.args.column ≢ pos 0 =
    λ none. c.if-entry-eq0.false (ap (cast_unsigned w128) (value ∙ none)) in
    let is = row_is_cleared c.args.column (leaver_row c.args.self.now c.args.leaving)
    (row_at c.args.self.now c.args.index) basic some in
    let width : c.start-start.result + c.args.self.now.width - c.start-start.result ≡ c.args.self.now.width =
    omega arith in
    let room = c.start-start.ensures.row c.requires.within in
    let length_is : length c.clear.new.numbers ≡ c.start-start.result + c.args.self.now.width - c.start-start.result =
    c.clear.auto.numbers ∙ simp (length-take, length-drop) (omega (arith, ap length whole)) in
    on_ok c.clear.result
    (λ (narrow : All IsNarrow c.clear.new.numbers). kept_with_part c.args.self.now
    (with_part c.args.self.now c.start-start.result (c.start-start.result
    + c.args.self.now.width - c.start-start.result) c.deref_mut.result.now c.clear.new.numbers) c.start-start.result
    (c.start-start.result + c.args.self.now.width - c.start-start.result) c.deref_mut.result.now c.clear.new.numbers
    c.requires.kept (omega arith) length_is whole narrow refl refl
    (part_written c.args.self.now c.start-start.result (c.start-start.result
    + c.args.self.now.width - c.start-start.result) c.deref_mut.result.now c.clear.new.numbers whole (omega arith)
    length_is) refl)
    c.clear.ensures.narrow
