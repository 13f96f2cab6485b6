-- A program without its zeros.
use Rattle.std.specs.Prelude.{◌≡◌, ℕ, suc, ◌+◌, ◌-◌, nat_lt, ℤ, ◌+ℤ◌, ◌*ℤ◌, List, ◌∷◌, length, slice_get, Some, Vec}
use Rattle.std.specs.Prelude.{if◌then◌else◌, zero, ◌<◌, ◌==◌, pos, [], map, slice_index_or}
use Rattle.std.specs.Global.{Global}
use Rattle.std.specs.Option.{MatchOption}
use Rattle.suit_linear.specs.declared.program.Program.{Program}
use Rattle.suit_linear.specs.Points.{number_at}
use Rattle.suit_linear.specs.Tableaus.{TableauRow, entry, first_tableau}
use Rattle.suit_linear_fast.specs.declared.cells.Cell.{Cell}
use Rattle.suit_linear_fast.specs.declared.sparse.Sparse.{Sparse}
use Rattle.suit_linear_fast.specs.Cells.{number_in}
use Rattle.suit_linear_fast.specs.Lines.{unit}
use Rattle.suit_linear.specs.declared.program.ProgramRow.{ProgramRow}
use Rattle.suit_linear.specs.Programs.{column_entries}
use Rattle.suit_linear.specs.declared.sparse.Entry.{Entry}
use Rattle.suit_linear.specs.Sparse.{part_of, sum_in}

-- cells hold the entries of a column in the first rows
abbrev pub HoldColumn : Program → ℕ → List Cell → Type 0
HoldColumn program column cells = (index : ℕ) (row : TableauRow)
    → slice_get (first_tableau program).rows index ≡ Some row → number_in cells index ≡ entry row column

-- cells hold the numbers of a row
abbrev pub HoldRow : TableauRow → List Cell → Type 0
HoldRow row cells = (index : ℕ) → number_in cells index ≡ number_at row.numbers index

-- the cells hold the first rows of a program, and its columns
pub record IsSparse (program : Program) (sparse : Sparse) : Type 0 where
  pub row_count : length sparse.rows.items ≡ length program.rows
  pub column_count : length sparse.columns.items ≡ length program.costs + length program.rows
  pub rows : (index : ℕ) → MatchOption (slice_get sparse.rows.items index) (Unit {0})
      (λ cells. (row : TableauRow) → slice_get (first_tableau program).rows index ≡ Some row → HoldRow row cells.items)
  pub columns : (column : ℕ) → MatchOption (slice_get sparse.columns.items column) (Unit {0})
      (λ cells. HoldColumn program column cells.items)

-- a multiple of a column is added to sums
abbrev pub AddsColumn : Program → ℕ → ℤ → List ℤ → List ℤ → Type 0
AddsColumn program column share before after = (index : ℕ) (row : TableauRow)
    → slice_get (first_tableau program).rows index ≡ Some row
    → number_at after index ≡ number_at before index +ℤ share *ℤ entry row column

-- a multiple of the first row at an index, which there is, is added to numbers
abbrev pub AddsRow : Program → ℕ → ℤ → List ℤ → List ℤ → Type 0
AddsRow program index weight before after = (row : TableauRow)
    × (slice_get (first_tableau program).rows index ≡ Some row)
    × ((place : ℕ) → number_at after place ≡ number_at before place +ℤ weight *ℤ number_at row.numbers place)

-- cells hold the bound and the entries of a program's row, and 1 in its slack column
abbrev pub HoldProgramRow : Program → ℕ → List Cell → Type 0
HoldProgramRow program index cells = (row : ProgramRow) → slice_get program.rows index ≡ Some row → (place : ℕ)
    → number_in cells place ≡ number_at (row.bound ∷ row.entries) place
    +ℤ unit (suc (length program.costs + index)) place

-- cells hold a column of a program, or behind these the slack column of a row
abbrev pub HoldProgramColumn : Program → ℕ → List Cell → Type 0
HoldProgramColumn program column cells = (index : ℕ) → number_in cells index
    ≡ (if nat_lt column (length program.costs) then number_at (column_entries program.rows column) index
    else unit (column - length program.costs) index)

-- so many lists of cells hold the first rows
pub record AreRows (program : Program) (rows : List (Vec Cell Global)) : Type 0 where
  pub count : length rows ≡ length program.rows
  pub each : (index : ℕ) (cells : Vec Cell Global) → slice_get rows index ≡ Some cells
      → HoldProgramRow program index cells.items

-- so many hold the columns
pub record AreColumns (program : Program) (columns : List (Vec Cell Global)) : Type 0 where
  pub count : length columns ≡ length program.costs + length program.rows
  pub each : (column : ℕ) (cells : Vec Cell Global) → slice_get columns column ≡ Some cells
      → HoldProgramColumn program column cells.items

-- what an entry adds to a row whose columns, so many, stand behind the bound
abbrev pub entry_part : ℕ → Entry → ℕ → ℤ
entry_part columns entry zero = pos 0
entry_part columns entry (suc column) = if nat_lt column columns then part_of entry column else pos 0

-- the cells of lists of them
abbrev pub cells_of : List (Vec Cell Global) → List (List Cell)
cells_of lists = map (λ cells. cells.items) lists

-- the entries of the row at an index are added to the cells of the columns
pub record AddsEntries (index : ℕ) (entries : List Entry) (before after : List (List Cell)) : Type 0 where
  pub same : length after ≡ length before
  pub numbers : (column place : ℕ) → column < length before → number_in (slice_index_or after column []) place
      ≡ number_in (slice_index_or before column []) place +ℤ (if place == index then sum_in entries column else pos 0)

-- so many lists of cells hold the columns of rows
pub record AreProgramColumns (rows : List ProgramRow) (columns : ℕ) (lists : List (Vec Cell Global)) : Type 0 where
  pub count : length lists ≡ columns
  pub each : (column : ℕ) (cells : Vec Cell Global) → slice_get lists column ≡ Some cells → (index : ℕ)
      → number_in cells.items index ≡ number_at (column_entries rows column) index
