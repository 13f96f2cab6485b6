-- A program without its zeros means the program (`rows_thinned`).
use Rattle.std.proofs.Common.{◌≡◌, ℕ, ◌+◌, ◌<◌, ◌≤◌, List, [], ◌∷◌, ◌++◌, length, take, get_or, refl, sym, ap}
use Rattle.std.proofs.Common.{◌∙◌, arith, cond, subst}
use Rattle.std.specs.Prelude.{ℤ, pos, ◌+ℤ◌, ◌==◌, map}
use Rattle.std.proofs.lemmas.Int.{ints}
use Rattle.std.proofs.lemmas.List.{take_all, take_more, map_push}
use Rattle.std.proofs.lemmas.List.FromFn.{fill_by_all}
use Rattle.suit_linear.specs.declared.program.Program.{Program}
use Rattle.suit_linear.specs.declared.program.ProgramRow.{ProgramRow}
use Rattle.suit_linear.specs.declared.sparse.Entry.{Entry}
use Rattle.suit_linear.specs.declared.sparse.SparseRow.{SparseRow}
use Rattle.suit_linear.specs.Points.{number_at}
use Rattle.suit_linear.specs.Programs.{IsWellFormed}
use Rattle.suit_linear.specs.Sparse.{part_of, sum_in, dense_entries, dense_row}
use Rattle.suit_linear_fast.proofs.SparsePrograms.{number_at_more}

pub sum_in_push : (entries : List Entry) (entry : Entry) (column : ℕ)
    → sum_in (entries ++ entry ∷ []) column ≡ sum_in entries column +ℤ part_of entry column
unfolding sum_in
sum_in_push [] entry column = turned (part_of entry column)
  where
    turned : (a : ℤ) → a +ℤ pos 0 ≡ pos 0 +ℤ a
    turned a = omega (arith, ints)
sum_in_push (first ∷ entries) entry column =
    ap (λ (z : ℤ). part_of first column +ℤ z) (sum_in_push entries entry column)
    ∙ grouped (part_of first column) (sum_in entries column) (part_of entry column)
  where
    grouped : (a b c : ℤ) → a +ℤ (b +ℤ c) ≡ (a +ℤ b) +ℤ c
    grouped a b c = omega (arith, ints)

-- ---- one row

-- entries mean so many numbers
pub record AreThinned (numbers : List ℤ) (entries : List Entry) : Type 0 where
  pub each : (column : ℕ) → sum_in entries column ≡ number_at numbers column

pub none_thinned : AreThinned [] []
unfolding sum_in
none_thinned = record { each = λ column. refl }

pub more_thinned : (numbers : List ℤ) (count : ℕ) (before after : List Entry) → count < length numbers
    → AreThinned (take count numbers) before
    → ((other : ℕ) → sum_in after other
    ≡ sum_in before other +ℤ cond (other == count) (number_at numbers count) (pos 0))
    → AreThinned (take (count + 1) numbers) after
more_thinned numbers count before after less h pushed = record {
  each = λ column. pushed column
      ∙ ap (λ (z : ℤ). z +ℤ cond (column == count) (number_at numbers count) (pos 0)) (h.each column)
      ∙ sym (number_at_more numbers count column less);
}

pub all_thinned : (numbers : List ℤ) (count : ℕ) (entries : List Entry) → length numbers ≤ count
    → AreThinned (take count numbers) entries → dense_entries (length numbers) entries ≡ numbers
all_thinned numbers count entries past h =
    sym (fill_by_all (sum_in entries) numbers (length numbers) (pos 0) refl
    (λ column less. ap (λ (xs : List ℤ). number_at xs column) (sym (take_all count numbers past))
    ∙ sym (h.each column)))

pub row_thinned : (row : ProgramRow) (entries : List Entry)
    → dense_entries (length row.entries) entries ≡ row.entries
    → dense_row (length row.entries) (record { entries = entries; bound = row.bound }) ≡ row
row_thinned row entries e = ap (λ (xs : List ℤ). (row_with xs)) e
  where
    row_with : List ℤ → ProgramRow
    row_with xs = record { entries = xs; bound = row.bound }

-- ---- the rows

pub one_thinned : (program : Program) (count : ℕ) (row : ProgramRow) (rows : List SparseRow) (thin : SparseRow)
    → IsWellFormed program → count < length program.rows → row ≡ get_or program.rows count row
    → map (dense_row (length program.costs)) rows ≡ take count program.rows
    → dense_row (length row.entries) thin ≡ row
    → map (dense_row (length program.costs)) (rows ++ thin ∷ []) ≡ take (count + 1) program.rows
one_thinned program count row rows thin well less read h e =
    let width : length row.entries ≡ length program.costs = subst (λ (r : ProgramRow). length r.entries
    ≡ length program.costs) (sym read) (well.widths count row less) in
    map_push (dense_row (length program.costs)) rows thin
    ∙ ap (λ (xs : List ProgramRow). xs ++ dense_row (length program.costs) thin ∷ []) h
    ∙ ap (λ (r : ProgramRow). take count program.rows ++ r ∷ [])
    (ap (λ (n : ℕ). dense_row n thin) (sym width) ∙ e ∙ read)
    ∙ sym (take_more program.rows count row less)

pub rows_thinned : (program : Program) (count : ℕ) (rows : List SparseRow) → length program.rows ≤ count
    → map (dense_row (length program.costs)) rows ≡ take count program.rows
    → map (dense_row (length program.costs)) rows ≡ program.rows
rows_thinned program count rows past h = h ∙ take_all count program.rows past
