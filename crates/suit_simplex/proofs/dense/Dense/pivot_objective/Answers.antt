use Rattle.std.proofs.Common.{rules, ◌≡◌, ◌∙◌, ◌+◌, ◌-◌, ◌*◌, ℕ, suc, take, drop, length, refl, arith, ap, All, List}
use Rattle.std.proofs.Common.{length-take, length-drop}
use Rattle.std.specs.Prelude.{OnOk}
use Rattle.std.specs.Prelude.{FitsSigned, ℤ}
use Rattle.std.specs.Int.{w128}
use Rattle.std.proofs.lemmas.Int.{to_z-of_z}
use Rattle.suit_num.specs.Narrow.{IsNarrow}
use Rattle.suit_linear.specs.Tableaus.{Tableau, entry, reduced_cost}
use Rattle.suit_linear.specs.Pivots.{cleared}
use Rattle.suit_simplex.specs.Dense.{leaver_row, seen}
use Rattle.suit_simplex.proofs.PivotOfARow.{objective_part, seen_with_objective, kept_with_part, with_part}
use Rattle.suit_simplex.proofs.PivotOfARow.{part_written, pivot_read, on_ok}
use Rattle.suit_simplex.proofs.dense.Dense.pivot_objective.Goals as goal

pub clear-requires-clause-some : goal.clear-requires-clause-some
clear-requires-clause-some c =
    let entry_fits : FitsSigned w128 c.reduced_cost-entry.result = search rules in
    let pivot_fits : FitsSigned w128 c.index-pivot.result.now = search rules in
    let whole : c.deref_mut.result.now ≡ c.args.self.now.numbers.items = c.deref_mut.ensures.value in
    let start : c.start-start.result ≡ length c.args.self.now.basics.items * c.args.self.now.width =
    c.start-start.ensures.value
    ∙ ap (λ (n : ℕ). n * c.args.self.now.width) (c.len.ensures ∙ c.args.self.now.basics.ok.0) in
    let part : take (length c.args.self.now.numbers.items - c.start-start.result)
    (drop c.start-start.result c.args.self.now.numbers.items) ≡ (seen c.args.self.now).objective =
    objective_part c.args.self.now c.start-start.result start in
    let copied : c.deref.result.now ≡ c.args.self.now.leaver.items = c.deref.ensures.value in
    let pivot : c.index-pivot.result.now ≡ entry (leaver_row c.args.self.now 0) c.args.column =
    pivot_read c.args.self.now.leaver.items c.args.column c.index-pivot.result.now (omega (
      arith,
      c.requires.kept.room,
    )) c.index-pivot.ensures in
    let value : c.reduced_cost-entry.result ≡ reduced_cost (seen c.args.self.now) c.args.column =
    c.reduced_cost-entry.ensures.value in
    simp to_z-of_z (rw (whole, part, copied, pivot, value) c.requires.some)

pub returns-clause-fits : goal.returns-clause-fits
returns-clause-fits c =
    let entry_fits : FitsSigned w128 c.reduced_cost-entry.result = search rules in
    let pivot_fits : FitsSigned w128 c.index-pivot.result.now = search rules in
    let whole : c.deref_mut.result.now ≡ c.args.self.now.numbers.items = c.deref_mut.ensures.value in
    let start : c.start-start.result ≡ length c.args.self.now.basics.items * c.args.self.now.width =
    c.start-start.ensures.value
    ∙ ap (λ (n : ℕ). n * c.args.self.now.width) (c.len.ensures ∙ c.args.self.now.basics.ok.0) in
    let part : take (length c.args.self.now.numbers.items - c.start-start.result)
    (drop c.start-start.result c.args.self.now.numbers.items) ≡ (seen c.args.self.now).objective =
    objective_part c.args.self.now c.start-start.result start in
    let copied : c.deref.result.now ≡ c.args.self.now.leaver.items = c.deref.ensures.value in
    let pivot : c.index-pivot.result.now ≡ entry (leaver_row c.args.self.now 0) c.args.column =
    pivot_read c.args.self.now.leaver.items c.args.column c.index-pivot.result.now (omega (
      arith,
      c.requires.kept.room,
    )) c.index-pivot.ensures in
    let value : c.reduced_cost-entry.result ≡ reduced_cost (seen c.args.self.now) c.args.column =
    c.reduced_cost-entry.ensures.value in
    rw (whole, part, copied, pivot, value) at (simp to_z-of_z at c.clear.ensures.fits)

pub returns-clause-objective : goal.returns-clause-objective
returns-clause-objective c =
    let entry_fits : FitsSigned w128 c.reduced_cost-entry.result = search rules in
    let pivot_fits : FitsSigned w128 c.index-pivot.result.now = search rules in
    let whole : c.deref_mut.result.now ≡ c.args.self.now.numbers.items = c.deref_mut.ensures.value in
    let start : c.start-start.result ≡ length c.args.self.now.basics.items * c.args.self.now.width =
    c.start-start.ensures.value
    ∙ ap (λ (n : ℕ). n * c.args.self.now.width) (c.len.ensures ∙ c.args.self.now.basics.ok.0) in
    let part : take (length c.args.self.now.numbers.items - c.start-start.result)
    (drop c.start-start.result c.args.self.now.numbers.items) ≡ (seen c.args.self.now).objective =
    objective_part c.args.self.now c.start-start.result start in
    let copied : c.deref.result.now ≡ c.args.self.now.leaver.items = c.deref.ensures.value in
    let pivot : c.index-pivot.result.now ≡ entry (leaver_row c.args.self.now 0) c.args.column =
    pivot_read c.args.self.now.leaver.items c.args.column c.index-pivot.result.now (omega (
      arith,
      c.requires.kept.room,
    )) c.index-pivot.ensures in
    let value : c.reduced_cost-entry.result ≡ reduced_cost (seen c.args.self.now) c.args.column =
    c.reduced_cost-entry.ensures.value in
    let room : c.start-start.result + suc c.args.self.now.width ≡ length c.args.self.now.numbers.items =
    c.start-start.ensures.objective (c.len.ensures ∙ c.args.self.now.basics.ok.0) in
    let fits : c.start-start.result + (length c.deref_mut.result.now - c.start-start.result)
    ≡ length c.args.self.now.numbers.items = omega (arith, ap length whole) in
    let length_is : length c.clear.new.numbers ≡ length c.deref_mut.result.now - c.start-start.result =
    c.clear.auto.numbers ∙ simp (length-take, length-drop) (omega arith) in
    let written = part_written c.args.self.now c.start-start.result
    (length c.deref_mut.result.now - c.start-start.result) c.deref_mut.result.now c.clear.new.numbers whole
    (omega arith) length_is in
    let clean : OnOk c.clear.result (c.clear.new.numbers
    ≡ cleared (entry (leaver_row c.args.self.now 0) c.args.column)
    (reduced_cost (seen c.args.self.now) c.args.column) (seen c.args.self.now).objective
    c.args.self.now.leaver.items) = rw (
      whole,
      part,
      copied,
      pivot,
      value,
    ) at (simp to_z-of_z at c.clear.ensures.value) in
    on_ok c.clear.result
    (λ (v : c.clear.new.numbers
    ≡ cleared (entry (leaver_row c.args.self.now 0) c.args.column) (reduced_cost (seen c.args.self.now) c.args.column)
    (seen c.args.self.now).objective c.args.self.now.leaver.items).
    seen_with_objective c.args.self.now
    (with_part c.args.self.now c.start-start.result (length c.deref_mut.result.now - c.start-start.result)
    c.deref_mut.result.now c.clear.new.numbers) c.start-start.result
    (length c.deref_mut.result.now - c.start-start.result) c.deref_mut.result.now c.clear.new.numbers start whole
    fits refl refl written
    ∙ ap (λ (ys : List ℤ). let t : Tableau = record (seen c.args.self.now) { objective = ys } in t) v)
    clean

pub returns-clause-kept : goal.returns-clause-kept
returns-clause-kept c =
    let entry_fits : FitsSigned w128 c.reduced_cost-entry.result = search rules in
    let pivot_fits : FitsSigned w128 c.index-pivot.result.now = search rules in
    let whole : c.deref_mut.result.now ≡ c.args.self.now.numbers.items = c.deref_mut.ensures.value in
    let start : c.start-start.result ≡ length c.args.self.now.basics.items * c.args.self.now.width =
    c.start-start.ensures.value
    ∙ ap (λ (n : ℕ). n * c.args.self.now.width) (c.len.ensures ∙ c.args.self.now.basics.ok.0) in
    let part : take (length c.args.self.now.numbers.items - c.start-start.result)
    (drop c.start-start.result c.args.self.now.numbers.items) ≡ (seen c.args.self.now).objective =
    objective_part c.args.self.now c.start-start.result start in
    let copied : c.deref.result.now ≡ c.args.self.now.leaver.items = c.deref.ensures.value in
    let pivot : c.index-pivot.result.now ≡ entry (leaver_row c.args.self.now 0) c.args.column =
    pivot_read c.args.self.now.leaver.items c.args.column c.index-pivot.result.now (omega (
      arith,
      c.requires.kept.room,
    )) c.index-pivot.ensures in
    let value : c.reduced_cost-entry.result ≡ reduced_cost (seen c.args.self.now) c.args.column =
    c.reduced_cost-entry.ensures.value in
    let room : c.start-start.result + suc c.args.self.now.width ≡ length c.args.self.now.numbers.items =
    c.start-start.ensures.objective (c.len.ensures ∙ c.args.self.now.basics.ok.0) in
    let fits : c.start-start.result + (length c.deref_mut.result.now - c.start-start.result)
    ≡ length c.args.self.now.numbers.items = omega (arith, ap length whole) in
    let length_is : length c.clear.new.numbers ≡ length c.deref_mut.result.now - c.start-start.result =
    c.clear.auto.numbers ∙ simp (length-take, length-drop) (omega arith) in
    let written = part_written c.args.self.now c.start-start.result
    (length c.deref_mut.result.now - c.start-start.result) c.deref_mut.result.now c.clear.new.numbers whole
    (omega arith) length_is in
    on_ok c.clear.result
    (λ (narrow : All IsNarrow c.clear.new.numbers). kept_with_part c.args.self.now
    (with_part c.args.self.now c.start-start.result (length c.deref_mut.result.now - c.start-start.result)
    c.deref_mut.result.now c.clear.new.numbers) c.start-start.result
    (length c.deref_mut.result.now - c.start-start.result) c.deref_mut.result.now c.clear.new.numbers
    c.requires.kept (omega arith) length_is whole narrow refl refl written refl)
    c.clear.ensures.narrow
