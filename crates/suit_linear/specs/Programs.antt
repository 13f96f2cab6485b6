-- Linear programs: their points, when they are bounded, and their dual.
use Rattle.std.specs.Prelude.{◌≡◌, ℕ, ◌<◌, ℤ, pos, ◌*ℤ◌, ◌<ℤ◌, ◌≤ℤ◌, List, length, map, All}
use Rattle.suit_num.specs.Narrow.{IsNarrow}
use Rattle.suit_linear.specs.declared.program.Program.{Program}
use Rattle.suit_linear.specs.declared.program.ProgramRow.{ProgramRow}
use Rattle.suit_linear.specs.Points.{number_at, dot}

-- no bound is negative, each row has an entry for each column, and no number is wider than 127 bits and a sign
pub record IsWellFormed (program : Program) : Type 0 where
  pub bounds : All (λ row. pos 0 ≤ℤ row.bound) program.rows
  pub widths : All (λ row. length row.entries ≡ length program.costs) program.rows
  pub narrow_costs : All IsNarrow program.costs
  pub narrow_entries : All (λ row. All IsNarrow row.entries) program.rows
  pub narrow_bounds : All (λ row. IsNarrow row.bound) program.rows

-- a point, as whole numbers over a denominator, with no negative column and every row within its bound
pub record IsFeasible (program : Program) (point : ℕ → ℤ) (den : ℤ) : Type 0 where
  pub over : pos 0 <ℤ den
  pub columns : (column : ℕ) → column < length program.costs → pos 0 ≤ℤ point column
  pub rows : All (λ row. dot row.entries point ≤ℤ (row.bound *ℤ den)) program.rows

-- the objective has an upper limit over all feasible points
abbrev pub IsBounded : Program → Type 0
IsBounded program = (limit : ℤ)
    × ((point : ℕ → ℤ) (den : ℤ) → IsFeasible program point den → dot program.costs point ≤ℤ (limit *ℤ den))

-- the entries of a column, row by row
abbrev pub column_entries : List ProgramRow → ℕ → List ℤ
column_entries rows column = map (λ row. number_at row.entries column) rows

-- prices of the rows, as whole numbers over a scale: none is negative, and what a unit of a column takes from the rows
-- is worth at least what it adds to the objective
pub record IsDualFeasible (program : Program) (prices : List ℤ) (scale : ℤ) : Type 0 where
  pub over : pos 0 <ℤ scale
  pub count : length prices ≡ length program.rows
  pub rows : All (λ price. pos 0 ≤ℤ price) prices
  pub columns : (column : ℕ) → column < length program.costs
      → (scale *ℤ number_at program.costs column) ≤ℤ dot prices (number_at (column_entries program.rows column))
