-- The optimum that the last tableau of a run holds.
use Rattle.std.specs.Prelude.{ℕ, ◌+◌, ◌==◌, pos, Option, Some, None, length, map, find, drop}
use Rattle.std.specs.List.{range_with_len}
use Rattle.suit_num.specs.declared.fraction.Frac.{Frac}
use Rattle.suit_linear.specs.declared.program.Program.{Program}
use Rattle.suit_linear.specs.declared.ends.Optimum.{Optimum}
use Rattle.suit_linear.specs.Tableaus.{TableauRow, Tableau, bound, entry, scale, value}
use Rattle.suit_answer.specs.Reduced.{fraction}

-- the value of a column by the row in which it is basic: the row's bound over its entry there, and 0 where there is no
-- such row
abbrev pub basic_value : ℕ → Option TableauRow → Frac
basic_value column (Some row) = fraction (bound row) (entry row column)
basic_value column None = fraction (pos 0) (pos 1)

-- the value of a column
abbrev pub value_at : Tableau → ℕ → Frac
value_at tableau column = basic_value column (find (λ row. row.basic == column) tableau.rows)

-- the optimum: the prices stand in the slack columns of the objective row
unfoldable pub optimum_at : Program → Tableau → Optimum
optimum_at program tableau = record {
  point = map (value_at tableau) (range_with_len 0 (length program.costs));
  duals = drop (2 + length program.costs) tableau.objective;
  scale = scale tableau;
  value = value tableau;
}
