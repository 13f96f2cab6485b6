-- What an optimum proves: its point and its prices are feasible, and both objectives are the same.
use Rattle.std.specs.Prelude.{◌≡◌, ℕ, ℤ, pos, ◌*ℤ◌, ◌<ℤ◌, List, map, Some, slice_get}
use Rattle.suit_num.specs.declared.fraction.Frac.{Frac}
use Rattle.suit_linear.specs.declared.program.Program.{Program}
use Rattle.suit_linear.specs.declared.ends.Optimum.{Optimum}
use Rattle.suit_linear.specs.Points.{number_at, dot}
use Rattle.suit_linear.specs.Programs.{IsFeasible, IsDualFeasible}

-- a point over a denominator has these fractions as its columns
pub record IsCommon (parts : List Frac) (point : ℕ → ℤ) (den : ℤ) : Type 0 where
  pub over : pos 0 <ℤ den
  pub same : (column : ℕ) (part : Frac) → slice_get parts column ≡ Some part
      → point column *ℤ part.den ≡ part.num *ℤ den

-- the point, over whatever denominator its columns have in common, is feasible (and they have one: the law
-- `fractions_have_a_common_denominator`), and its objective is value / scale
abbrev pub IsPrimalOptimum : Program → Optimum → Type 0
IsPrimalOptimum program optimum = (point : ℕ → ℤ) (den : ℤ) → IsCommon optimum.point point den
    → IsFeasible program point den × (dot program.costs point *ℤ optimum.scale ≡ optimum.value *ℤ den)

-- the prices are feasible, and all bounds at these prices are worth value / scale
abbrev pub IsDualOptimum : Program → Optimum → Type 0
IsDualOptimum program optimum =
    IsDualFeasible program optimum.duals optimum.scale
    × (dot optimum.duals (number_at (map (λ row. row.bound) program.rows)) ≡ optimum.value)
