-- Programs whose rows name only the columns that they have a part in, and the programs that they mean.
use Rattle.std.specs.Prelude.{ℕ, ℤ, pos, ◌+ℤ◌, List, [], ◌∷◌, length, map, ◌==◌, if◌then◌else◌}
use Rattle.std.specs.List.{range_with_len}
use Rattle.suit_linear.specs.declared.program.Program.{Program}
use Rattle.suit_linear.specs.declared.program.ProgramRow.{ProgramRow}
use Rattle.suit_linear.specs.declared.sparse.Entry.{Entry}
use Rattle.suit_linear.specs.declared.sparse.SparseRow.{SparseRow}
use Rattle.suit_linear.specs.declared.sparse.SparseProgram.{SparseProgram}

-- what an entry adds to a column: its number where it names the column
abbrev pub part_of : Entry → ℕ → ℤ
part_of entry column = if column == entry.column then entry.number else pos 0

-- what a column adds to the row: the sum of all numbers that name it
unfoldable pub sum_in : List Entry → ℕ → ℤ
sum_in [] column = pos 0
sum_in (entry ∷ entries) column = part_of entry column +ℤ sum_in entries column

-- the entries of so many columns, with the zeros
abbrev pub dense_entries : ℕ → List Entry → List ℤ
dense_entries columns entries = map (sum_in entries) (range_with_len 0 columns)

abbrev pub dense_row : ℕ → SparseRow → ProgramRow
dense_row columns row = record { entries = dense_entries columns row.entries; bound = row.bound }

-- the program that is meant
abbrev pub dense : SparseProgram → Program
dense program = record { costs = program.costs; rows = map (dense_row (length program.costs)) program.rows }
