-- Laws of multiples, of small numbers and of prices.
use Rattle.std.specs.Prelude.{◌≡◌, ℕ, ◌<◌, ℤ, pos, ◌*ℤ◌, ◌≤ℤ◌, List, length, map, All, Some}
use Rattle.std.specs.List.{range_with_len}
use Rattle.suit_linear.specs.declared.program.Program.{Program}
use Rattle.suit_linear.specs.declared.program.ProgramRow.{ProgramRow}
use Rattle.suit_linear.specs.Points.{number_at, dot}
use Rattle.suit_linear.specs.Programs.{IsDualFeasible, column_entries}
use Rattle.suit_linear.specs.Tableaus.{TableauRow, Tableau}
use Rattle.suit_linear.specs.Pivots.{content, primitive, entering, leaving, pivoted}
use Rattle.suit_linear.specs.Runs.{To, next}
use Rattle.suit_linear.specs.Multiples.{AreMultiples, AreMultipleRows, IsMultipleChoice, IsSmallTableau}

-- where the rows of two tableaus are multiples one by one, multiples of one row leave
abbrev pub MultiplesLeaveAlike : Type 0
MultiplesLeaveAlike = (tableau other : Tableau) (column : ℕ) → AreMultipleRows tableau.rows other.rows
    → IsMultipleChoice (leaving tableau column) (leaving other column)

-- a multiple of numbers with no common divisor is divided back to them
abbrev pub MultiplesDivideBack : Type 0
MultiplesDivideBack = (multiple numbers : List ℤ) → AreMultiples (number_at multiple) (number_at numbers)
    → length multiple ≡ length numbers → content numbers ≡ 1 → primitive multiple ≡ numbers

-- the pivot of a tableau of small numbers is made
abbrev pub SmallPivotsAreMade : Type 0
SmallPivotsAreMade = (tableau : Tableau) (column : ℕ) (leaver : TableauRow) → IsSmallTableau tableau
    → entering tableau ≡ Some column → leaving tableau column ≡ Some leaver
    → next tableau ≡ To (pivoted tableau column leaver)

-- what each column takes from the rows is worth at prices
abbrev pub priced_columns : ℕ → List ℤ → List ProgramRow → List ℤ
priced_columns columns prices rows =
    map (λ column. dot prices (number_at (column_entries rows column))) (range_with_len 0 columns)

-- what the rows come to at a point is worth as much as what its columns take from them
abbrev pub SumsAreExchanged : Type 0
SumsAreExchanged = (columns : ℕ) (point : ℕ → ℤ) (prices : List ℤ) (rows : List ProgramRow)
    → All (λ row. length row.entries ≡ columns) rows
    → dot prices (number_at (map (λ row. dot row.entries point) rows)) ≡ dot (priced_columns columns prices rows) point

-- at feasible prices the objective of a point with no negative column is at most what its rows are worth
abbrev pub PricesOutweighPoints : Type 0
PricesOutweighPoints = (program : Program) (prices : List ℤ) (scale : ℤ) (point : ℕ → ℤ)
    → All (λ row. length row.entries ≡ length program.costs) program.rows → IsDualFeasible program prices scale
    → ((column : ℕ) → column < length program.costs → pos 0 ≤ℤ point column)
    → (scale *ℤ dot program.costs point) ≤ℤ dot prices (number_at (map (λ row. dot row.entries point) program.rows))
