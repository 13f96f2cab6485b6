-- Cells of a program's rows and columns hold those of the first tableau (`sparse_is`).
use Rattle.std.proofs.Common.{◌≡◌, ◌≢◌, inl, inr, ℕ, zero, suc, ◌+◌, ◌-◌, ◌<◌, ◌≤◌, List, [], ◌∷◌, ◌++◌, length, take}
use Rattle.std.proofs.Common.{get_or}
use Rattle.std.proofs.Common.{◌⊎◌, Option, Some, None, refl, sym, ap, ◌∙◌, subst, cond, arith, Vec, Global, nat_lt}
use Rattle.std.proofs.Common.{Bool}
use Rattle.std.specs.Prelude.{ℤ, pos, ◌+ℤ◌, slice_get, ◌==◌, true, false}
use Rattle.std.specs.Option.{MatchOption}
use Rattle.std.proofs.lemmas.Int.{ints}
use Rattle.std.proofs.lemmas.Bool.{cases_eq, cases_lt, cond-true, cond-false, eq-eqb, ne_eqb}
use Rattle.std.proofs.lemmas.List.{get_or_past, get_or-map, get_or-append-add, get_or_append_left}
use Rattle.std.proofs.lemmas.List.{length-append}
use Rattle.std.proofs.lemmas.Option.{slice_get_cases, slice_get_within, get_or_from_slice_get}
use Rattle.suit_linear.specs.declared.program.Program.{Program}
use Rattle.suit_linear.specs.declared.program.ProgramRow.{ProgramRow}
use Rattle.suit_linear.specs.Points.{number_at}
use Rattle.suit_linear.specs.Programs.{IsWellFormed, column_entries}
use Rattle.suit_linear.specs.Tableaus.{TableauRow, entry, first_row, first_tableau, unit_numbers}
use Rattle.suit_linear.proofs.FirstTableaus.{first_row_at, length-first, unit_here, unit_elsewhere}
use Rattle.suit_linear_fast.specs.declared.cells.Cell.{Cell}
use Rattle.suit_linear_fast.specs.declared.sparse.Sparse.{Sparse}
use Rattle.suit_linear_fast.specs.Cells.{number_of, number_in}
use Rattle.suit_linear_fast.specs.Lines.{unit}
use Rattle.suit_linear_fast.specs.Sparse.{IsSparse, HoldRow, HoldColumn, HoldProgramRow, HoldProgramColumn, AreRows}
use Rattle.suit_linear_fast.specs.Sparse.{AreColumns}
use Rattle.suit_lists.proofs.Indices.{pushed_each}

-- ---- one more cell

pub number_in_push : (cells : List Cell) (cell : Cell) (index : ℕ)
    → number_in (cells ++ cell ∷ []) index ≡ number_in cells index +ℤ number_of cell index
unfolding number_in
number_in_push [] cell index = turned (number_of cell index)
  where
    turned : (a : ℤ) → a +ℤ pos 0 ≡ pos 0 +ℤ a
    turned a = omega (arith, ints)
number_in_push (first ∷ cells) cell index =
    ap (λ (z : ℤ). number_of first index +ℤ z) (number_in_push cells cell index)
    ∙ grouped (number_of first index) (number_in cells index) (number_of cell index)
  where
    grouped : (a b c : ℤ) → a +ℤ (b +ℤ c) ≡ (a +ℤ b) +ℤ c
    grouped a b c = omega (arith, ints)

pub nothing_pushed : (before : ℤ) (index other : ℕ) (number : ℤ) → number ≡ pos 0
    → before ≡ before +ℤ cond (other == index) number (pos 0)
nothing_pushed before index other number h = by_test (other == index)
  where
    none : (a : ℤ) → a ≡ a +ℤ pos 0
    none a = omega (arith, ints)

    by_test : (b : Bool) → before ≡ before +ℤ cond b number (pos 0)
    by_test true = none before ∙ ap (λ (z : ℤ). before +ℤ z) (sym h)
    by_test false = none before

-- the first numbers of a list, one more
pub number_at_more : (xs : List ℤ) (count index : ℕ) → count < length xs
    → number_at (take (count + 1) xs) index ≡ number_at (take count xs) index
    +ℤ cond (index == count) (number_at xs count) (pos 0)
number_at_more [] count index less = absurd (omega arith)
number_at_more (x ∷ xs) zero zero less = alone x
  where
    alone : (a : ℤ) → a ≡ pos 0 +ℤ a
    alone a = omega (arith, ints)
number_at_more (x ∷ xs) zero (suc index) less =
    sym (ap (λ (z : ℤ). pos 0 +ℤ z)
    (cond-false (suc index == 0) x (pos 0) (ne_eqb (suc index) 0 (λ (e : suc index ≡ 0). absurd (omega arith)))))
number_at_more (x ∷ xs) (suc count) zero less =
    let e : suc count + 1 ≡ suc (count + 1) = omega arith in
    rw e
    (none x ∙ ap (λ (z : ℤ). x +ℤ z)
    (sym (cond-false (0 == suc count) (number_at xs count) (pos 0) (ne_eqb 0 (suc count)
    (λ (f : 0 ≡ suc count). absurd (omega arith))))))
  where
    none : (a : ℤ) → a ≡ a +ℤ pos 0
    none a = omega (arith, ints)
number_at_more (x ∷ xs) (suc count) (suc index) less =
    let e : suc count + 1 ≡ suc (count + 1) = omega arith in
    rw e
    (number_at_more xs count index (omega arith)
    ∙ ap (λ (b : Bool). number_at (take count xs) index +ℤ cond b (number_at xs count) (pos 0)) (same index count))
  where
    same : (a b : ℕ) → (a == b) ≡ (suc a == suc b)
    same a b =
        elim (cases_eq a b) [
          | inl here ↦ eq-eqb a b here ∙ sym (eq-eqb (suc a) (suc b) (ap suc here))
          | inr differs ↦ ne_eqb a b differs
              ∙ sym (ne_eqb (suc a) (suc b) (λ (e : suc a ≡ suc b). differs (omega arith)))
        ]

-- ---- the first rows

pub split_row : (columns rows index : ℕ) (row : ProgramRow) (place : ℕ) → length row.entries ≡ columns → index < rows
    → number_at (first_row columns rows (index, row)).numbers place
    ≡ number_at (row.bound ∷ row.entries) place +ℤ unit (suc (columns + index)) place
split_row columns rows index row place width less =
    elim (cases_lt place (suc columns)) [
      | inl inside ↦
          get_or_append_left (row.bound ∷ row.entries) (unit_numbers rows index) (pos 0) place (omega arith)
          ∙ none (number_at (row.bound ∷ row.entries) place)
          ∙ ap (λ (z : ℤ). number_at (row.bound ∷ row.entries) place +ℤ z)
          (sym (cond-false (place == suc (columns + index)) (pos 1) (pos 0)
          (ne_eqb place (suc (columns + index)) (λ (e : place ≡ suc (columns + index)). absurd (omega arith)))))
      | inr past ↦
          let rest : ℕ = place - suc columns in
          let whole : place ≡ length (row.bound ∷ row.entries) + rest = omega arith in
          ap (λ (n : ℕ). number_at ((row.bound ∷ row.entries) ++ unit_numbers rows index) n) whole
          ∙ get_or-append-add (row.bound ∷ row.entries) (unit_numbers rows index) rest (pos 0)
          ∙ by_slack rest (cases_eq rest index) (omega arith)
          ∙ alone (unit (suc (columns + index)) place)
          ∙ ap (λ (z : ℤ). z +ℤ unit (suc (columns + index)) place)
          (sym (get_or_past (row.bound ∷ row.entries) place (pos 0) (omega arith)))
    ]
  where
    none : (a : ℤ) → a ≡ a +ℤ pos 0
    none a = omega (arith, ints)

    alone : (a : ℤ) → a ≡ pos 0 +ℤ a
    alone a = omega (arith, ints)

    by_slack : (rest : ℕ) → (rest ≡ index) ⊎ (rest ≢ index) → place ≡ suc columns + rest
        → number_at (unit_numbers rows index) rest ≡ unit (suc (columns + index)) place
    by_slack rest (inl here) e =
        ap (λ (n : ℕ). number_at (unit_numbers rows index) n) here ∙ unit_here rows index less
        ∙ sym (cond-true (place == suc (columns + index)) (pos 1) (pos 0)
        (eq-eqb place (suc (columns + index)) (omega arith)))
    by_slack rest (inr differs) e =
        unit_elsewhere rows index rest differs
        ∙ sym (cond-false (place == suc (columns + index)) (pos 1) (pos 0)
        (ne_eqb place (suc (columns + index)) (λ (same : place ≡ suc (columns + index)). differs (omega arith))))

-- a row of the first tableau and its row of the program
pub first_at : (program : Program) (index : ℕ) (row : TableauRow)
    → slice_get (first_tableau program).rows index ≡ Some row
    → (other : ProgramRow) × (slice_get program.rows index ≡ Some other) × (index < length program.rows)
    × (row ≡ first_row (length program.costs) (length program.rows) (index, other))
first_at program index row at =
    elim (slice_get_cases program.rows index).1 [
      | inl (other, inside, here, read) ↦ (
        other,
        here,
        inside,
        sym (get_or_from_slice_get (first_tableau program).rows index row
            (first_row (length program.costs) (length program.rows) (index, other)) at)
            ∙ first_row_at program index other inside
            ∙ ap (λ (r : ProgramRow). first_row (length program.costs) (length program.rows) (index, r)) read,
      )
      | inr (past, none) ↦
          let low : index < length (first_tableau program).rows =
          slice_get_within (first_tableau program).rows index row
          at in
          let same = length-first program in
          absurd (omega arith)
    ]

pub wide : (program : Program) (index : ℕ) (other : ProgramRow) → IsWellFormed program
    → slice_get program.rows index ≡ Some other → length other.entries ≡ length program.costs
wide program index other well at =
    subst (λ (r : ProgramRow). length r.entries ≡ length program.costs) (get_or_from_slice_get program.rows index other
    other at) (well.widths index other (slice_get_within program.rows index other at))

row_holds : (program : Program) (index : ℕ) (cells : List Cell) → IsWellFormed program
    → HoldProgramRow program index cells → (row : TableauRow) → slice_get (first_tableau program).rows index ≡ Some row
    → HoldRow row cells
row_holds program index cells well holds row at place =
    let from = first_at program index row at in
    holds from.0 from.1 place
    ∙ sym (split_row (length program.costs) (length program.rows) index from.0 place (wide program index from.0 well
    from.1) from.2)
    ∙ ap (λ (r : TableauRow). number_at r.numbers place) (sym from.3)

column_at : (rows : List ProgramRow) (column index : ℕ) (other : ProgramRow) → slice_get rows index ≡ Some other
    → number_at (column_entries rows column) index ≡ number_at other.entries column
column_at rows column index other at =
    get_or-map (λ (r : ProgramRow). number_at r.entries column) rows index other (pos 0) (slice_get_within rows index
    other at)
    ∙ ap (λ (r : ProgramRow). number_at r.entries column) (get_or_from_slice_get rows index other other at)

column_holds : (program : Program) (column : ℕ) (cells : List Cell) → IsWellFormed program
    → column < length program.costs + length program.rows → HoldProgramColumn program column cells
    → HoldColumn program column cells
column_holds program column cells well low holds index row at =
    let from = first_at program index row at in
    let width = wide program index from.0 well from.1 in
    let split = split_row (length program.costs) (length program.rows) index from.0 (suc column) width from.2 in
    holds index
    ∙ elim (cases_lt column (length program.costs)) [
      | inl less ↦
          cond-true (nat_lt column (length program.costs)) _ _ (less_test column (length program.costs) less)
          ∙ column_at program.rows column index from.0 from.1
          ∙ none (number_at from.0.entries column)
          ∙ ap (λ (z : ℤ). number_at from.0.entries column +ℤ z)
          (sym (cond-false (suc column == suc (length program.costs + index)) (pos 1) (pos 0)
          (ne_eqb (suc column) (suc (length program.costs + index))
          (λ (e : suc column ≡ suc (length program.costs + index)). absurd (omega arith)))))
      | inr past ↦
          cond-false (nat_lt column (length program.costs)) _ _ (past_test column (length program.costs) past)
          ∙ by_slack (cases_eq index (column - length program.costs)) past
          ∙ alone (unit (suc (length program.costs + index)) (suc column))
          ∙ ap (λ (z : ℤ). z +ℤ unit (suc (length program.costs + index)) (suc column))
          (sym (get_or_past from.0.entries column (pos 0) (omega arith)))
    ]
    ∙ sym split
    ∙ ap (λ (r : TableauRow). entry r column) (sym from.3)
  where
    none : (a : ℤ) → a ≡ a +ℤ pos 0
    none a = omega (arith, ints)

    alone : (a : ℤ) → a ≡ pos 0 +ℤ a
    alone a = omega (arith, ints)

    less_test : (a b : ℕ) → a < b → nat_lt a b ≡ true
    less_test a b h = grind arith

    past_test : (a b : ℕ) → b ≤ a → nat_lt a b ≡ false
    past_test a b h = grind arith

    by_slack : (index ≡ column - length program.costs) ⊎ (index ≢ column - length program.costs)
        → length program.costs ≤ column
        → unit (column - length program.costs) index ≡ unit (suc (length program.costs + index)) (suc column)
    by_slack (inl here) past =
        cond-true (index == column - length program.costs) (pos 1) (pos 0) (eq-eqb index _ here)
        ∙ sym (cond-true (suc column == suc (length program.costs + index)) (pos 1) (pos 0)
        (eq-eqb (suc column) (suc (length program.costs + index)) (omega arith)))
    by_slack (inr differs) past =
        cond-false (index == column - length program.costs) (pos 1) (pos 0) (ne_eqb index _ differs)
        ∙ sym (cond-false (suc column == suc (length program.costs + index)) (pos 1) (pos 0)
        (ne_eqb (suc column) (suc (length program.costs + index))
        (λ (e : suc column ≡ suc (length program.costs + index)). differs (omega arith))))

-- the cells of all rows and columns hold the program
pub sparse_is : (program : Program) (sparse : Sparse) → IsWellFormed program → AreRows program sparse.rows.items
    → AreColumns program sparse.columns.items → IsSparse program sparse
sparse_is program sparse well rows columns = record {
  row_count = rows.count;
  column_count = columns.count;
  rows = λ index.
      by_found (slice_get sparse.rows.items index)
      (λ cells. (row : TableauRow) → slice_get (first_tableau program).rows index ≡ Some row → HoldRow row cells.items)
      (λ cells at. row_holds program index cells.items well (rows.each index cells at));
  columns = λ column.
      by_found (slice_get sparse.columns.items column) (λ cells. HoldColumn program column cells.items)
      (λ cells at. column_holds program column cells.items well
      (subst (λ (n : ℕ). column < n) columns.count (slice_get_within sparse.columns.items column cells at))
      (columns.each column cells at));
}
  where
    by_found : (o : Option (Vec Cell Global)) (P : Vec Cell Global → Type 0)
        → ((cells : Vec Cell Global) → o ≡ Some cells → P cells) → MatchOption o (Unit {0}) P
    by_found None P h = tt
    by_found (Some cells) P h = h cells refl

-- ---- a slack column's cell

pub one_cell : (cell : Cell) (index : ℕ) → number_in (cell ∷ []) index ≡ number_of cell index
unfolding number_in
one_cell cell index = alone (number_of cell index)
  where
    alone : (a : ℤ) → a +ℤ pos 0 ≡ a
    alone a = omega (arith, ints)

-- ---- rows and columns one by one

pub record AreRowsBelow (program : Program) (count : ℕ) (rows : List (Vec Cell Global)) : Type 0 where
  pub same : length rows ≡ count
  pub each : (index : ℕ) (cells : Vec Cell Global) → slice_get rows index ≡ Some cells
      → HoldProgramRow program index cells.items

pub no_rows : (program : Program) → AreRowsBelow program 0 []
no_rows program = record { same = refl; each = λ index cells at. absurd (cc) }

pub row_pushed : (program : Program) (count : ℕ) (rows : List (Vec Cell Global)) (cells : Vec Cell Global)
    (row : ProgramRow) (slack : ℕ) → AreRowsBelow program count rows → count < length program.rows
    → row ≡ get_or program.rows count row → slack ≡ suc (length program.costs + count)
    → ((index : ℕ) → number_in cells.items index ≡ number_at (row.bound ∷ row.entries) index +ℤ unit slack index)
    → AreRowsBelow program (count + 1) (rows ++ cells ∷ [])
row_pushed program count rows cells row slack h less read e holds = record {
  same = length-append rows (cells ∷ []) ∙ ap (λ (n : ℕ). n + 1) h.same;
  each = pushed_each (λ n (c : Vec Cell Global). HoldProgramRow program n c.items) rows cells h.each
      (subst (λ (n : ℕ). HoldProgramRow program n cells.items) (sym h.same) here);
}
  where
    here : HoldProgramRow program count cells.items
    here other at place =
        let is : other ≡ row = sym (get_or_from_slice_get program.rows count other row at) ∙ sym read in
        holds place
        ∙ ap (λ (n : ℕ). number_at (row.bound ∷ row.entries) place +ℤ unit n place) e
        ∙ ap (λ (r : ProgramRow). number_at (r.bound ∷ r.entries) place
        +ℤ unit (suc (length program.costs + count)) place)
        (sym is)

pub all_rows : (program : Program) (count : ℕ) (rows : List (Vec Cell Global)) → length program.rows ≤ count
    → count ≤ length program.rows → AreRowsBelow program count rows → AreRows program rows
all_rows program count rows past low h = record {
  count = h.same ∙ same count (length program.rows) past low;
  each = h.each;
}
  where
    same : (a b : ℕ) → b ≤ a → a ≤ b → a ≡ b
    same a b h k = omega arith

pub record AreColumnsBelow (program : Program) (count : ℕ) (columns : List (Vec Cell Global)) : Type 0 where
  pub same : length columns ≡ count
  pub each : (column : ℕ) (cells : Vec Cell Global) → slice_get columns column ≡ Some cells
      → HoldProgramColumn program column cells.items

less_test : (a b : ℕ) → a < b → nat_lt a b ≡ true
less_test a b h = grind arith

past_test : (a b : ℕ) → b ≤ a → nat_lt a b ≡ false
past_test a b h = grind arith

one_column : (program : Program) (count : ℕ) (columns : List (Vec Cell Global)) (cells : Vec Cell Global)
    → AreColumnsBelow program count columns → HoldProgramColumn program count cells.items
    → AreColumnsBelow program (count + 1) (columns ++ cells ∷ [])
one_column program count columns cells h here = record {
  same = length-append columns (cells ∷ []) ∙ ap (λ (n : ℕ). n + 1) h.same;
  each = pushed_each (λ n (c : Vec Cell Global). HoldProgramColumn program n c.items) columns cells h.each
      (subst (λ (n : ℕ). HoldProgramColumn program n cells.items) (sym h.same) here);
}

pub slack_pushed : (program : Program) (count : ℕ) (columns : List (Vec Cell Global)) (cells : Vec Cell Global)
    → AreColumnsBelow program (length program.costs + count) columns
    → ((index : ℕ) → number_in cells.items index ≡ unit count index)
    → AreColumnsBelow program (length program.costs + (count + 1)) (columns ++ cells ∷ [])
slack_pushed program count columns cells h holds =
    subst (λ (n : ℕ). AreColumnsBelow program n (columns ++ cells ∷ [])) (sum (length program.costs) count)
    (one_column program (length program.costs + count) columns cells h
    (λ index. holds index ∙ ap (λ (n : ℕ). unit n index) (back (length program.costs) count)
    ∙ sym (cond-false (nat_lt (length program.costs + count) (length program.costs)) _ _
    (past_test (length program.costs + count) (length program.costs) (over (length program.costs) count)))))
  where
    sum : (a b : ℕ) → a + b + 1 ≡ a + (b + 1)
    sum a b = omega arith

    back : (a b : ℕ) → b ≡ a + b - a
    back a b = omega arith

    over : (a b : ℕ) → a ≤ a + b
    over a b = omega arith

pub all_columns : (program : Program) (count : ℕ) (columns : List (Vec Cell Global)) → length program.rows ≤ count
    → count ≤ length program.rows → AreColumnsBelow program (length program.costs + count) columns
    → AreColumns program columns
all_columns program count columns past low h = record {
  count = h.same ∙ ap (λ (n : ℕ). length program.costs + n) (same count (length program.rows) past low);
  each = h.each;
}
  where
    same : (a b : ℕ) → b ≤ a → a ≤ b → a ≡ b
    same a b h k = omega arith
