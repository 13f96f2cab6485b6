-- Rows of a well-formed program.
use Rattle.std.specs.Prelude.{◌≡◌, ℕ, pos, ◌≤ℤ◌, length, All}
use Rattle.suit_num.specs.Narrow.{IsNarrow}
use Rattle.suit_linear.specs.declared.program.ProgramRow.{ProgramRow}

-- a row of so many columns: its bound is not negative, and no number is wider than 127 bits and a sign
pub record IsFormedRow (columns : ℕ) (row : ProgramRow) : Type 0 where
  pub bound : pos 0 ≤ℤ row.bound
  pub width : length row.entries ≡ columns
  pub narrow_entries : All IsNarrow row.entries
  pub narrow_bound : IsNarrow row.bound
