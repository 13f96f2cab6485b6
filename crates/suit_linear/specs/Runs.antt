-- A run: pivot after pivot, until no column enters, the budget is used up, or a number gets too wide.
use Rattle.std.specs.Prelude.{ℕ, zero, suc, Option, Some, None, is_some, if◌then◌else◌}
use Rattle.std.specs.List.{list_all}
use Rattle.suit_linear.specs.declared.program.Program.{Program}
use Rattle.suit_linear.specs.Tableaus.{TableauRow, Tableau, first_tableau}
use Rattle.suit_linear.specs.Pivots.{entering, leaving, pivoted, pivoting, is_narrow}

-- what comes after a tableau
pub data Next : Type 0 where
  -- no column enters
  Last : Next
  -- no row has a positive entry in the entering column, so that the objective has no limit
  Ray : Next
  -- the pivot makes a number that is too wide
  Wide : Next
  To : Tableau → Next

abbrev pub next_by_row : Tableau → ℕ → Option TableauRow → Next
next_by_row tableau column None = Ray
next_by_row tableau column (Some leaver) = if list_all is_narrow (pivoting tableau column leaver)
    then To (pivoted tableau column leaver) else Wide

abbrev pub next_by_column : Tableau → Option ℕ → Next
next_by_column tableau None = Last
next_by_column tableau (Some column) = next_by_row tableau column (leaving tableau column)

unfoldable pub next : Tableau → Next
next tableau = next_by_column tableau (entering tableau)

-- how a run ends
pub data RunEnd : Type 0 where
  -- with the last tableau, from which the optimum is read
  AtOptimum : Tableau → RunEnd
  -- the budget is used up, and a column would enter
  AtBudget : RunEnd
  -- the pivot of this number is too wide
  AtWide : (pivot : ℕ) → RunEnd
  -- never, where the program is bounded
  AtRay : RunEnd

-- the end of a run by what comes after a tableau, whose pivot has this number and whose run goes on in this way
abbrev pub run_on : Next → Tableau → (pivot : ℕ) → (Tableau → RunEnd) → RunEnd
run_on Last tableau pivot more = AtOptimum tableau
run_on Ray tableau pivot more = AtRay
run_on Wide tableau pivot more = AtWide pivot
run_on (To later) tableau pivot more = more later

-- the end of a run from a tableau on, with so many pivots left and so many made
unfoldable pub run_within : (left made : ℕ) → Tableau → RunEnd
run_within zero made tableau = if is_some (entering tableau) then AtBudget else AtOptimum tableau
run_within (suc left) made tableau = run_on (next tableau) tableau (suc made) (run_within left (suc made))

-- the end of a program's run
abbrev pub run_end : Program → ℕ → RunEnd
run_end program budget = run_within budget 0 (first_tableau program)
