-- What is read from the last tableau, and what an answer says of the run.
use Rattle.std.specs.Prelude.{◌≡◌, ℕ, ◌+◌, ◌==◌, pos, ◌*ℤ◌, length, find, Option, Some, None, Result, Ok, Err}
use Rattle.std.specs.Prelude.{slice_get, drop}
use Rattle.suit_num.specs.declared.fraction.Frac.{Frac}
use Rattle.suit_linear.specs.declared.program.Program.{Program}
use Rattle.suit_linear.specs.declared.ends.Optimum.{Optimum}
use Rattle.suit_linear.specs.declared.ends.SimplexEnd.{SimplexEnd}
use Rattle.suit_linear.specs.declared.ends.SimplexEnd.TheVariants as ends
use Rattle.suit_linear.specs.Tableaus.{TableauRow, Tableau, bound, entry, scale, value}
use Rattle.suit_linear.specs.Runs.{RunEnd, AtOptimum, AtBudget, AtWide, AtRay}

-- a fraction is the bound of the row in which the column is basic over the row's entry there, and 0 where there is no
-- such row
abbrev pub IsBasicValue : ℕ → Option TableauRow → Frac → Type 0
IsBasicValue column (Some row) value = value.num *ℤ entry row column ≡ bound row *ℤ value.den
IsBasicValue column None value = value.num ≡ pos 0

-- the optimum that a last tableau of a program holds
pub record IsOptimumOf (program : Program) (tableau : Tableau) (optimum : Optimum) : Type 0 where
  pub columns : length optimum.point ≡ length program.costs
  pub point : (column : ℕ) (part : Frac) → slice_get optimum.point column ≡ Some part
      → IsBasicValue column (find (λ row. row.basic == column) tableau.rows) part
  -- the prices stand in the slack columns of the objective row
  pub duals : optimum.duals ≡ drop (2 + length program.costs) tableau.objective
  pub scale : optimum.scale ≡ scale tableau
  pub value : optimum.value ≡ value tableau

-- an answer is how the run ended, or want of memory
abbrev pub Tells : Program → RunEnd → Result Optimum SimplexEnd → Type 0
Tells program end (Err ends.Memory) = Unit {0}
Tells program (AtOptimum tableau) (Ok optimum) = IsOptimumOf program tableau optimum
Tells program AtBudget (Err ends.Pivots) = Unit {0}
Tells program (AtWide number) (Err (ends.Wide pivot)) = pivot ≡ number
Tells program (AtOptimum tableau) (Err ends.Pivots) = ⊥
Tells program (AtOptimum tableau) (Err (ends.Wide pivot)) = ⊥
Tells program AtBudget (Ok optimum) = ⊥
Tells program AtBudget (Err (ends.Wide pivot)) = ⊥
Tells program (AtWide number) (Ok optimum) = ⊥
Tells program (AtWide number) (Err ends.Pivots) = ⊥
Tells program AtRay (Ok optimum) = ⊥
Tells program AtRay (Err ends.Pivots) = ⊥
Tells program AtRay (Err (ends.Wide pivot)) = ⊥
