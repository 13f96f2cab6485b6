-- The tableau of a program, and the first one.
use Rattle.std.specs.Prelude.{ℕ, suc, ◌+◌, ◌==◌, ℤ, pos, neg_ℤ, List, ◌∷◌, ◌++◌, length, map, replicate, if◌then◌else◌}
use Rattle.std.specs.List.{enumerate_from, range_with_len}
use Rattle.suit_linear.specs.declared.program.Program.{Program}
use Rattle.suit_linear.specs.declared.program.ProgramRow.{ProgramRow}
use Rattle.suit_linear.specs.Points.{number_at}

-- a row: its basic column, and its numbers, which are its bound and then its entry in each column
pub record TableauRow : Type 0 where
  pub basic : ℕ
  pub numbers : List ℤ

-- the rows, and the numbers of the objective row: its scale, its value, and then its entry in each column
pub record Tableau : Type 0 where
  pub rows : List TableauRow
  pub objective : List ℤ

abbrev pub bound : TableauRow → ℤ
bound row = number_at row.numbers 0

abbrev pub entry : TableauRow → ℕ → ℤ
entry row column = number_at row.numbers (suc column)

abbrev pub scale : Tableau → ℤ
scale tableau = number_at tableau.objective 0

abbrev pub value : Tableau → ℤ
value tableau = number_at tableau.objective 1

-- the scale times what the column's unit in the point would cost the objective: a column with a negative number
-- improves it
abbrev pub reduced_cost : Tableau → ℕ → ℤ
reduced_cost tableau column = number_at tableau.objective (suc (suc column))

-- 1 at an index and 0 elsewhere
unfoldable pub unit_numbers : ℕ → ℕ → List ℤ
unit_numbers count index = map (λ other. if other == index then pos 1 else pos 0) (range_with_len 0 count)

-- one of so many rows at the start: its bound, its entries, and 1 in its slack column, which is basic
abbrev pub first_row : ℕ → ℕ → ℕ × ProgramRow → TableauRow
first_row columns rows (index, row) = record {
  basic = columns + index;
  numbers = row.bound ∷ row.entries ++ unit_numbers rows index;
}

-- the first tableau: the slack columns are basic, so that every column of the program is 0, and so is the objective
unfoldable pub first_tableau : Program → Tableau
first_tableau program = record {
  rows = map (first_row (length program.costs) (length program.rows)) (enumerate_from 0 program.rows);
  objective = pos 1 ∷ pos 0 ∷ map neg_ℤ program.costs ++ replicate (length program.rows) (pos 0);
}
