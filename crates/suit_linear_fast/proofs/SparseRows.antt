-- Cells of a sparse row hold the row that is meant (`row_whole`).
use Rattle.std.proofs.Common.{◌≡◌, inl, inr, ℕ, zero, suc, ◌+◌, ◌<◌, ◌≤◌, List, [], ◌∷◌, ◌++◌, length, take, get_or}
use Rattle.std.proofs.Common.{refl, sym, ap}
use Rattle.std.proofs.Common.{◌∙◌, arith, cond, nat_lt, Bool, Vec, Global}
use Rattle.std.specs.Prelude.{ℤ, pos, ◌+ℤ◌, ◌==◌, true, false, unsigned_abs}
use Rattle.std.proofs.lemmas.Int.{ints}
use Rattle.std.proofs.lemmas.Bool.{cases_eq, cases_lt, cond-true, cond-false, ne_eqb, eq-eqb}
use Rattle.std.proofs.lemmas.List.{get_or_past, take_all, get_or-map, length-map}
use Rattle.std.proofs.lemmas.List.FromFn.{get_or-map-range_with_len, length-map-range_with_len}
use Rattle.suit_linear.specs.declared.sparse.Entry.{Entry}
use Rattle.suit_linear.specs.declared.sparse.SparseRow.{SparseRow}
use Rattle.suit_linear.specs.declared.sparse.SparseProgram.{SparseProgram}
use Rattle.suit_linear.specs.Points.{number_at}
use Rattle.suit_linear.specs.Sparse.{part_of, sum_in, dense_entries, dense_row, dense}
use Rattle.suit_linear.proofs.SparseSums.{sum_in_more}
use Rattle.suit_linear_fast.specs.declared.cells.Cell.{Cell}
use Rattle.suit_linear_fast.specs.Cells.{number_in}
use Rattle.suit_linear_fast.specs.Lines.{unit}
use Rattle.suit_linear_fast.specs.Sparse.{entry_part, AreRows}
use Rattle.suit_linear_fast.proofs.SparsePrograms.{AreRowsBelow, row_pushed, all_rows}

less_test : (a b : ℕ) → a < b → nat_lt a b ≡ true
less_test a b h = grind arith

past_test : (a b : ℕ) → b ≤ a → nat_lt a b ≡ false
past_test a b h = grind arith

-- an entry with the zeros
pub dense_at : (columns : ℕ) (entries : List Entry) (column : ℕ)
    → number_at (dense_entries columns entries) column ≡ cond (nat_lt column columns) (sum_in entries column) (pos 0)
dense_at columns entries column =
    elim (cases_lt column columns) [
      | inl less ↦
          get_or-map-range_with_len (sum_in entries) 0 columns column column (pos 0) less (omega arith)
          ∙ sym (cond-true (nat_lt column columns) _ _ (less_test column columns less))
      | inr past ↦
          get_or_past (dense_entries columns entries) column (pos 0)
          (omega (arith, length-map-range_with_len (sum_in entries) 0 columns))
          ∙ sym (cond-false (nat_lt column columns) _ _ (past_test column columns past))
    ]

pub dense_within : (columns : ℕ) (entries : List Entry) (column : ℕ) → column < columns
    → number_at (dense_entries columns entries) column ≡ sum_in entries column
dense_within columns entries column less =
    get_or-map-range_with_len (sum_in entries) 0 columns column column (pos 0) less (omega arith)

-- a size that no sum is above is one that no entry is above
pub dense_size : (columns : ℕ) (entries : List Entry) (size : ℕ)
    → ((column : ℕ) → unsigned_abs (sum_in entries column) ≤ size) → (column : ℕ)
    → unsigned_abs (number_at (dense_entries columns entries) column) ≤ size
dense_size columns entries size h column = rw (dense_at columns entries column) (by_test (nat_lt column columns))
  where
    by_test : (b : Bool) → unsigned_abs (cond b (sum_in entries column) (pos 0)) ≤ size
    by_test true = h column
    by_test false = omega (arith, ints)

-- ---- the cells of a row

pub row_part : ℕ → ℤ → List Entry → ℕ → ℤ
row_part columns bound entries zero = bound
row_part columns bound entries (suc column) = cond (nat_lt column columns) (sum_in entries column) (pos 0)

-- cells hold the bound and so many entries
pub record HoldParts (columns : ℕ) (bound : ℤ) (entries : List Entry) (cells : List Cell) : Type 0 where
  pub each : (place : ℕ) → number_in cells place ≡ row_part columns bound entries place

pub bound_held : (columns : ℕ) (bound : ℤ) (entries : List Entry) (cells : List Cell)
    → ((place : ℕ) → number_in cells place ≡ number_in [] place +ℤ cond (place == 0) bound (pos 0))
    → HoldParts columns bound (take 0 entries) cells
unfolding number_in row_part sum_in
bound_held columns bound entries cells h = record { each = λ place. h place ∙ by_place place }
  where
    alone : (a : ℤ) → pos 0 +ℤ a ≡ a
    alone a = omega (arith, ints)

    by_test : (b : Bool) → pos 0 ≡ cond b (pos 0) (pos 0)
    by_test true = refl
    by_test false = refl

    by_place : (place : ℕ) → pos 0 +ℤ cond (place == 0) bound (pos 0) ≡ row_part columns bound [] place
    by_place zero = alone bound
    by_place (suc column) =
        ap (λ (z : ℤ). pos 0 +ℤ z) (cond-false (suc column == 0) bound (pos 0)
        (ne_eqb (suc column) 0 (λ (e : suc column ≡ 0). absurd (omega arith))))
        ∙ by_test (nat_lt column columns)

pub entry_held : (columns : ℕ) (bound : ℤ) (entries : List Entry) (count : ℕ) (other : Entry)
    (before after : List Cell) → count < length entries → HoldParts columns bound (take count entries) before
    → ((place : ℕ) → number_in after place
    ≡ number_in before place +ℤ entry_part columns (get_or entries count other) place)
    → HoldParts columns bound (take (count + 1) entries) after
unfolding row_part
entry_held columns bound entries count other before after less h pushed = record {
  each = λ place. pushed place
      ∙ ap (λ (z : ℤ). z +ℤ entry_part columns (get_or entries count other) place) (h.each place)
      ∙ by_place place;
}
  where
    by_test : (b : Bool) (s p t : ℤ) → t ≡ p +ℤ s → cond b s (pos 0) +ℤ cond b p (pos 0) ≡ cond b t (pos 0)
    by_test true s p t e = omega (arith, ints)
    by_test false s p t e = refl

    alone : (a : ℤ) → a +ℤ pos 0 ≡ a
    alone a = omega (arith, ints)

    by_place : (place : ℕ) → row_part columns bound (take count entries) place
        +ℤ entry_part columns (get_or entries count other) place
        ≡ row_part columns bound (take (count + 1) entries) place
    by_place zero = alone bound
    by_place (suc column) = by_test (nat_lt column columns) (sum_in (take count entries) column)
        (part_of (get_or entries count other) column) _ (sum_in_more entries count other column less)

-- an entry of no column adds nothing, and another adds its number
pub part_past : (columns : ℕ) (entry : Entry) (before : ℤ) (place : ℕ) → columns ≤ entry.column
    → before ≡ before +ℤ entry_part columns entry place
part_past columns entry before zero past = omega (arith, ints)
part_past columns entry before (suc column) past =
    none before ∙ ap (λ (z : ℤ). before +ℤ z)
    (elim (cases_lt column columns) [
      | inl less ↦
          sym (cond-true (nat_lt column columns) _ _ (less_test column columns less)
          ∙ cond-false (column == entry.column) entry.number (pos 0)
          (ne_eqb column entry.column (λ (e : column ≡ entry.column). absurd (omega (arith, past)))))
      | inr over ↦ sym (cond-false (nat_lt column columns) _ _ (past_test column columns over))
    ])
  where
    none : (a : ℤ) → a ≡ a +ℤ pos 0
    none a = omega (arith, ints)

pub part_within : (columns : ℕ) (entry : Entry) (place : ℕ) → entry.column < columns
    → cond (place == entry.column + 1) entry.number (pos 0) ≡ entry_part columns entry place
part_within columns entry zero less =
    cond-false (0 == entry.column + 1) entry.number (pos 0)
    (ne_eqb 0 (entry.column + 1) (λ (e : 0 ≡ entry.column + 1). absurd (omega arith)))
part_within columns entry (suc column) less =
    elim (cases_eq column entry.column) [
      | inl here ↦
          cond-true (suc column == entry.column + 1) entry.number (pos 0)
          (eq-eqb (suc column) (entry.column + 1) (omega arith))
          ∙ sym (cond-true (nat_lt column columns) _ _ (less_test column columns (omega arith))
          ∙ cond-true (column == entry.column) entry.number (pos 0) (eq-eqb column entry.column here))
      | inr differs ↦
          cond-false (suc column == entry.column + 1) entry.number (pos 0)
          (ne_eqb (suc column) (entry.column + 1) (λ (e : suc column ≡ entry.column + 1). differs (omega arith)))
          ∙ sym (by_test (nat_lt column columns)
          (cond-false (column == entry.column) entry.number (pos 0) (ne_eqb column entry.column differs)))
    ]
  where
    by_test : (b : Bool) {x : ℤ} → x ≡ pos 0 → cond b x (pos 0) ≡ pos 0
    by_test true e = e
    by_test false e = refl

pub row_whole : (columns : ℕ) (bound : ℤ) (entries : List Entry) (count slack : ℕ) (before after : List Cell)
    → length entries ≤ count → HoldParts columns bound (take count entries) before
    → ((place : ℕ) → number_in after place ≡ number_in before place +ℤ unit slack place) → (place : ℕ)
    → number_in after place ≡ number_at (bound ∷ dense_entries columns entries) place +ℤ unit slack place
unfolding row_part
row_whole columns bound entries count slack before after past h pushed place =
    pushed place
    ∙ ap (λ (z : ℤ). z +ℤ unit slack place)
    (h.each place
    ∙ ap (λ (xs : List Entry). row_part columns bound xs place) (take_all count entries past)
    ∙ by_place place)
  where
    by_place : (place : ℕ) → row_part columns bound entries place
        ≡ number_at (bound ∷ dense_entries columns entries) place
    by_place zero = refl
    by_place (suc column) = sym (dense_at columns entries column)

-- ---- the rows of the program that is meant

pub read_dense : (program : SparseProgram) (count : ℕ) (row : SparseRow) → count < length program.rows
    → row ≡ get_or program.rows count row
    → dense_row (length program.costs) row
    ≡ get_or (dense program).rows count (dense_row (length program.costs) row)
read_dense program count row less read =
    ap (dense_row (length program.costs)) read
    ∙ sym (get_or-map (dense_row (length program.costs)) program.rows count row (dense_row (length program.costs) row)
    less)

pub sparse_row_pushed : (program : SparseProgram) (count : ℕ) (rows : List (Vec Cell Global)) (cells : Vec Cell Global)
    (row : SparseRow) (slack : ℕ) → AreRowsBelow (dense program) count rows → count < length program.rows
    → row ≡ get_or program.rows count row → slack ≡ suc (length program.costs + count)
    → ((index : ℕ) → number_in cells.items index
    ≡ number_at (row.bound ∷ dense_entries (length program.costs) row.entries) index +ℤ unit slack index)
    → AreRowsBelow (dense program) (count + 1) (rows ++ cells ∷ [])
sparse_row_pushed program count rows cells row slack h less read e holds =
    row_pushed (dense program) count rows cells (dense_row (length program.costs) row) slack h
    (omega (arith, less, length-map program.rows (dense_row (length program.costs))))
    (read_dense program count row less read) e holds

pub all_sparse_rows : (program : SparseProgram) (count : ℕ) (rows : List (Vec Cell Global))
    → length program.rows ≤ count → count ≤ length program.rows → AreRowsBelow (dense program) count rows
    → AreRows (dense program) rows
all_sparse_rows program count rows past low h =
    let width = length-map program.rows (dense_row (length program.costs)) in
    all_rows (dense program) count rows (omega (arith, past, width)) (omega (arith, low, width)) h
