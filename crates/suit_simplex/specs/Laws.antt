-- Laws of runs and of points.
use Rattle.std.specs.Prelude.{◌≡◌, ◌≢◌, ℕ, ℤ, List, Result, Err}
use Rattle.suit_num.specs.declared.fraction.Frac.{Frac}
use Rattle.suit_linear.specs.declared.program.Program.{Program}
use Rattle.suit_linear.specs.declared.ends.Optimum.{Optimum}
use Rattle.suit_linear.specs.declared.ends.SimplexEnd.{SimplexEnd}
use Rattle.suit_linear.specs.declared.ends.SimplexEnd.TheVariants as ends
use Rattle.suit_linear.specs.Programs.{IsWellFormed, IsBounded}
use Rattle.suit_linear.specs.Tableaus.{Tableau}
use Rattle.suit_linear.specs.Runs.{AtOptimum, AtRay, run_end}
use Rattle.suit_linear.specs.Ends.{IsOptimumOf, Tells}
use Rattle.suit_linear.specs.Optima.{IsCommon}

-- where the objective has a limit, an entering column always has a row to leave
abbrev pub BoundedRunsMeetNoRay : Type 0
BoundedRunsMeetNoRay = (program : Program) (budget : ℕ) → IsWellFormed program → IsBounded program
    → run_end program budget ≢ AtRay

-- fractions have a denominator in common
abbrev pub FractionsHaveACommonDenominator : Type 0
FractionsHaveACommonDenominator = (parts : List Frac) → (point : ℕ → ℤ) × (den : ℤ) × IsCommon parts point den

-- the last tableau of a run holds one optimum
abbrev pub LastTableausHaveOneOptimum : Type 0
LastTableausHaveOneOptimum = (program : Program) (budget : ℕ) (tableau : Tableau) (optimum other : Optimum)
    → IsWellFormed program → run_end program budget ≡ AtOptimum tableau → IsOptimumOf program tableau optimum
    → IsOptimumOf program tableau other → optimum ≡ other

-- but for want of memory, a program and a budget have one answer
abbrev pub RunsEndInOneWay : Type 0
RunsEndInOneWay = (program : Program) (budget : ℕ) (answer other : Result Optimum SimplexEnd) → IsWellFormed program
    → Tells program (run_end program budget) answer → Tells program (run_end program budget) other
    → answer ≢ Err ends.Memory → other ≢ Err ends.Memory → answer ≡ other
