-- The cells of sparse rows by their columns hold the columns of the program that is meant (`columns_whole`).
use Rattle.std.proofs.Common.{◌≡◌, inl, inr, ℕ, ◌+◌, ◌<◌, ◌≤◌, List, [], ◌∷◌, ◌++◌, length, take}
use Rattle.std.proofs.Common.{get_or}
use Rattle.std.proofs.Common.{subst, refl, sym, ap, ◌∙◌, arith, cond, nat_lt, Bool, Vec, Global, replicate}
use Rattle.std.specs.Prelude.{ℤ, pos, ◌+ℤ◌, ◌==◌, true, false, map, set}
use Rattle.std.proofs.lemmas.Int.{ints}
use Rattle.std.proofs.lemmas.Bool.{cases_eq, cond-true, cond-false, eq-eqb, ne_eqb}
use Rattle.std.proofs.lemmas.List.{take_all, length-set, get_or-set_same, get_or-set_other, length-map}
use Rattle.std.proofs.lemmas.List.{get_or-map, get_or-replicate, length-replicate}
use Rattle.std.proofs.lemmas.Option.{slice_get_within, get_or_from_slice_get}
use Rattle.suit_linear.specs.declared.program.Program.{Program}
use Rattle.suit_linear.specs.declared.program.ProgramRow.{ProgramRow}
use Rattle.suit_linear.specs.declared.sparse.Entry.{Entry}
use Rattle.suit_linear.specs.declared.sparse.SparseRow.{SparseRow}
use Rattle.suit_linear.specs.Points.{number_at}
use Rattle.suit_linear.specs.Programs.{column_entries}
use Rattle.suit_linear.specs.Sparse.{part_of, sum_in, dense_entries, dense_row}
use Rattle.suit_linear.proofs.SparseSums.{sum_in_more}
use Rattle.suit_linear_fast.specs.declared.cells.Cell.{Cell}
use Rattle.suit_linear_fast.specs.Cells.{number_of, number_in}
use Rattle.suit_linear_fast.specs.Sparse.{AddsEntries, AreProgramColumns, cells_of}
use Rattle.suit_linear_fast.proofs.SparsePrograms.{number_in_push, number_at_more, AreColumnsBelow}
use Rattle.suit_linear_fast.proofs.SparseRows.{dense_within}

none : (a : ℤ) → a ≡ a +ℤ pos 0
none a = omega (arith, ints)

cond_none : (b : Bool) → cond b (pos 0) (pos 0) ≡ pos 0
cond_none true = refl
cond_none false = refl

-- ---- the entries of one row

pub none_added : (index : ℕ) (entries : List Entry) (before : List (List Cell))
    → AddsEntries index (take 0 entries) before before
unfolding sum_in
none_added index entries before = record {
  same = refl;
  numbers = λ column place less. none (number_in (get_or before column []) place)
      ∙ ap (λ (z : ℤ). number_in (get_or before column []) place +ℤ z) (sym (cond_none (place == index)));
}

step : (b : Bool) (now base sum part next cell : ℤ) → now ≡ base +ℤ cond b sum (pos 0) → next ≡ part +ℤ sum
    → cell ≡ cond b part (pos 0) → now +ℤ cell ≡ base +ℤ cond b next (pos 0)
step true now base sum part next cell h e k = omega (arith, ints)
step false now base sum part next cell h e k = omega (arith, ints)

still : (b : Bool) (now base sum part next : ℤ) → now ≡ base +ℤ cond b sum (pos 0) → next ≡ part +ℤ sum
    → part ≡ pos 0 → now ≡ base +ℤ cond b next (pos 0)
still true now base sum part next h e k = omega (arith, ints)
still false now base sum part next h e k = h

-- one more entry, behind the cells of its column
pub entry_added : (index count : ℕ) (entries : List Entry) (other : Entry) (before now after : List (List Cell))
    → count < length entries → (get_or entries count other).column < length now
    → AddsEntries index (take count entries) before now
    → after ≡ set now (get_or entries count other).column (get_or now (get_or entries count other).column []
    ++ (record { index = index; number = (get_or entries count other).number }) ∷ [])
    → AddsEntries index (take (count + 1) entries) before after
entry_added index count entries other before now after less within h e =
    let entry : Entry = get_or entries count other in
    let cell : Cell = record { index = index; number = entry.number } in
    record {
      same = ap length e ∙ length-set now entry.column _ ∙ h.same;
      numbers = λ column place below.
          elim (cases_eq column (get_or entries count other).column) [
            | inl here ↦
                ap (λ (xs : List (List Cell)). number_in (get_or xs column []) place) e
                ∙ ap (λ (n : ℕ). number_in (get_or (set now entry.column (get_or now entry.column [] ++ cell ∷ [])) n
                [])
                place) here
                ∙ ap (λ (cells : List Cell). number_in cells place) (get_or-set_same now entry.column _ [] within)
                ∙ number_in_push (get_or now entry.column []) cell place
                ∙ ap (λ (n : ℕ). number_in (get_or now n []) place +ℤ number_of cell place) (sym here)
                ∙ step (place == index) (number_in (get_or now column []) place)
                (number_in (get_or before column []) place) (sum_in (take count entries) column) (part_of entry column)
                (sum_in (take (count + 1) entries) column) (number_of cell place) (h.numbers column place below)
                (sum_in_more entries count other column less)
                (ap (λ (z : ℤ). cond (place == index) z (pos 0))
                (sym (cond-true (column == entry.column) entry.number (pos 0) (eq-eqb column entry.column here))))
            | inr differs ↦
                ap (λ (xs : List (List Cell)). number_in (get_or xs column []) place) e
                ∙ ap (λ (cells : List Cell). number_in cells place)
                (get_or-set_other now entry.column column _ [] differs)
                ∙ still (place == index) (number_in (get_or now column []) place)
                (number_in (get_or before column []) place) (sum_in (take count entries) column) (part_of entry column)
                (sum_in (take (count + 1) entries) column) (h.numbers column place below)
                (sum_in_more entries count other column less)
                (cond-false (column == entry.column) entry.number (pos 0) (ne_eqb column entry.column differs))
          ];
    }

-- or none, where there is no such column
pub entry_past : (index count : ℕ) (entries : List Entry) (other : Entry) (before now : List (List Cell))
    → count < length entries → length now ≤ (get_or entries count other).column
    → AddsEntries index (take count entries) before now → AddsEntries index (take (count + 1) entries) before now
entry_past index count entries other before now less past h =
    let entry : Entry = get_or entries count other in
    record {
      same = h.same;
      numbers = λ column place below.
          still (place == index) (number_in (get_or now column []) place) (number_in (get_or before column []) place)
          (sum_in (take count entries) column) (part_of entry column) (sum_in (take (count + 1) entries) column)
          (h.numbers column place below) (sum_in_more entries count other column less)
          (cond-false (column == entry.column) entry.number (pos 0) (ne_eqb column entry.column
          (λ (e : column ≡ entry.column). absurd (omega (arith, past, h.same)))));
    }

pub all_added : (index count : ℕ) (entries : List Entry) (before now : List (List Cell)) → length entries ≤ count
    → AddsEntries index (take count entries) before now → AddsEntries index entries before now
all_added index count entries before now past h =
    subst (λ (xs : List Entry). AddsEntries index xs before now) (take_all count entries past) h

-- ---- the rows, one by one

-- lists of cells hold the columns of so many rows
pub record AreHeld (rows : List ProgramRow) (columns count : ℕ) (lists : List (List Cell)) : Type 0 where
  pub same : length lists ≡ columns
  pub numbers : (column place : ℕ) → column < columns
      → number_in (get_or lists column []) place ≡ number_at (take count (column_entries rows column)) place

pub none_held : (rows : List ProgramRow) (columns : ℕ) (lists : List (List Cell)) → lists ≡ replicate columns []
    → AreHeld rows columns 0 lists
unfolding number_in
none_held rows columns lists e = record {
  same = ap length e ∙ length-replicate columns [];
  numbers = λ column place less.
      ap (λ (xs : List (List Cell)). number_in (get_or xs column []) place) e
      ∙ ap (λ (cells : List Cell). number_in cells place) (get_or-replicate columns column [] [] less);
}

-- one more row
pub row_held : (rows : List SparseRow) (columns count : ℕ) (row : SparseRow) (now after : List (List Cell))
    → count < length rows → row ≡ get_or rows count row → AreHeld (map (dense_row columns) rows) columns count now
    → AddsEntries count row.entries now after → AreHeld (map (dense_row columns) rows) columns (count + 1) after
row_held rows columns count row now after less read h added = record {
  same = added.same ∙ h.same;
  numbers = λ column place below.
      added.numbers column place (omega (arith, below, h.same))
      ∙ ap (λ (z : ℤ). z +ℤ cond (place == count) (sum_in row.entries column) (pos 0)) (h.numbers column place below)
      ∙ ap (λ (z : ℤ). number_at (take count (column_entries (map (dense_row columns) rows) column)) place
      +ℤ cond (place == count) z (pos 0)) (sym (entry_at column below))
      ∙ sym (number_at_more (column_entries (map (dense_row columns) rows) column) count place
      (omega (
        arith,
        less,
        length-map (map (dense_row columns) rows) (λ (r : ProgramRow). number_at r.entries column),
        length-map rows (dense_row columns),
      )));
}
  where
    entry_at : (column : ℕ) → column < columns
        → number_at (column_entries (map (dense_row columns) rows) column) count ≡ sum_in row.entries column
    entry_at column below =
        get_or-map (λ (r : ProgramRow). number_at r.entries column) (map (dense_row columns) rows) count
        (dense_row columns row) (pos 0) (omega (arith, less, length-map rows (dense_row columns)))
        ∙ ap (λ (r : ProgramRow). number_at r.entries column)
        (get_or-map (dense_row columns) rows count row (dense_row columns row) less)
        ∙ ap (λ (r : SparseRow). number_at (dense_entries columns r.entries) column) (sym read)
        ∙ dense_within columns row.entries column below

pub columns_whole : (rows : List SparseRow) (columns count : ℕ) (lists : List (Vec Cell Global))
    → length rows ≤ count → AreHeld (map (dense_row columns) rows) columns count (cells_of lists)
    → AreProgramColumns (map (dense_row columns) rows) columns lists
columns_whole rows columns count lists past h = record {
  count = sym (length-map lists (λ (cells : Vec Cell Global). cells.items)) ∙ h.same;
  each = λ column cells at index.
      let less : column < length lists = slice_get_within lists column cells at in
      ap (λ (xs : List Cell). number_in xs index)
      (sym (get_or-map (λ (c : Vec Cell Global). c.items) lists column cells [] less
      ∙ ap (λ (c : Vec Cell Global). c.items) (get_or_from_slice_get lists column cells cells at)))
      ∙ h.numbers column index
      (omega (arith, less, h.same, length-map lists (λ (c : Vec Cell Global). c.items)))
      ∙ ap (λ (xs : List ℤ). number_at xs index) (take_all count (column_entries (map (dense_row columns) rows) column)
      (omega (
        arith,
        past,
        length-map (map (dense_row columns) rows) (λ (r : ProgramRow). number_at r.entries column),
        length-map rows (dense_row columns),
      )));
}

-- they are the first columns of the program's tableau
less_test : (a b : ℕ) → a < b → nat_lt a b ≡ true
less_test a b h = grind arith

pub columns_begun : (program : Program) (lists : List (Vec Cell Global))
    → AreProgramColumns program.rows (length program.costs) lists
    → AreColumnsBelow program (length program.costs + 0) lists
columns_begun program lists h = record {
  same = h.count ∙ omega arith;
  each = λ column cells at index.
      let less : column < length lists = slice_get_within lists column cells at in
      h.each column cells at index
      ∙ sym (cond-true (nat_lt column (length program.costs)) _ _
      (less_test column (length program.costs) (omega (arith, less, h.count))));
}
