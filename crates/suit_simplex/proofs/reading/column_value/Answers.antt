use Rattle.std.proofs.Common.{rules, ◌≡◌, sym}
use Rattle.std.specs.Prelude.{FitsSigned, ◌<ℤ◌, pos}
use Rattle.std.specs.Int.{w128}
use Rattle.std.proofs.lemmas.Int.{to_z-of_z}
use Rattle.std.proofs.lemmas.List.Elements.{All-contains}
use Rattle.suit_linear.specs.Tableaus.{TableauRow, entry}
use Rattle.suit_simplex.specs.Dense.{row_at, seen}
use Rattle.suit_simplex.proofs.RatioTestByIndex.{seen_row}
use Rattle.suit_simplex.proofs.BasicRows.{found_row_at, found_none, basic_value, free_value}
use Rattle.suit_simplex.proofs.reading.column_value.Goals as goal
use Rattle.suit_lists.proofs.Indices.{contains_at}

pub reduced-requires-clause-positive : goal.reduced-requires-clause-positive
reduced-requires-clause-positive c =
    let fits : FitsSigned w128 c.entry.result = search rules in
    let basics : c.deref.result.now ≡ c.args.dense.now.basics.items = c.deref.ensures.value in
    let found = found_row_at c.args.dense.now c.args.column c.in-Some.index (sym (rw basics at c.in-Some.ensures)) in
    let here : pos 0 <ℤ entry (row_at c.args.dense.now c.in-Some.index)
    (row_at c.args.dense.now c.in-Some.index).basic =
    All-contains (λ (row : TableauRow). pos 0 <ℤ entry row row.basic) (seen c.args.dense.now).rows
    (row_at c.args.dense.now c.in-Some.index) c.requires.pivotal
    (contains_at (seen c.args.dense.now).rows c.in-Some.index (row_at c.args.dense.now c.in-Some.index)
    (seen_row c.args.dense.now c.in-Some.index found.0)) in
    simp to_z-of_z (rw c.entry.ensures.value (rw found.2 at here))

pub returns-in-Some : goal.returns-in-Some
returns-in-Some c =
    let entry_fits : FitsSigned w128 c.entry.result = search rules in
    let bound_fits : FitsSigned w128 c.bound.result = search rules in
    let basics : c.deref.result.now ≡ c.args.dense.now.basics.items = c.deref.ensures.value in
    let found = found_row_at c.args.dense.now c.args.column c.in-Some.index (sym (rw basics at c.in-Some.ensures)) in
    basic_value c.args.dense.now c.args.column c.in-Some.index c.reduced.result c.bound.result c.entry.result found.1
    c.bound.ensures.value c.entry.ensures.value (simp to_z-of_z at c.reduced.ensures.value)

pub returns-in-None : goal.returns-in-None
returns-in-None c =
    let basics : c.deref.result.now ≡ c.args.dense.now.basics.items = c.deref.ensures.value in
    free_value c.args.dense.now c.args.column c.reduced-in-None.result
    (found_none c.args.dense.now c.args.column (sym (rw basics at c.in-None.ensures)))
    c.reduced-in-None.ensures.value
