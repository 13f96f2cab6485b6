-- Worked runs, which compute.
use Rattle.std.specs.Prelude.{◌≡◌, ℕ, ◌+◌, ◌^◌, ℤ, pos, negsuc, List, [], ◌∷◌}
use Rattle.suit_linear.specs.declared.program.Program.{Program}
use Rattle.suit_linear.specs.declared.program.ProgramRow.{ProgramRow}
use Rattle.suit_linear.specs.Tableaus.{TableauRow, Tableau, first_tableau}
use Rattle.suit_linear.specs.Runs.{AtOptimum, AtBudget, AtWide, AtRay, To, next, run_end}

abbrev pub row_of : List ℤ → ℤ → ProgramRow
row_of entries bound = record { entries = entries; bound = bound }

abbrev pub tableau_row : ℕ → List ℤ → TableauRow
tableau_row basic numbers = record { basic = basic; numbers = numbers }

-- 3x + 2y is to be largest where x + y is at most 4 and 3x + y at most 6
abbrev pub two_columns : Program
two_columns = record {
  costs = pos 3 ∷ pos 2 ∷ [];
  rows = row_of (pos 1 ∷ pos 1 ∷ []) (pos 4) ∷ row_of (pos 3 ∷ pos 1 ∷ []) (pos 6) ∷ [];
}

-- its tableaus: the first, after column 0 enters in row 1, and after column 1 enters in row 0
abbrev pub TwoColumnsBegin : Type 0
TwoColumnsBegin = first_tableau two_columns ≡ record {
  rows = tableau_row 2 (pos 4 ∷ pos 1 ∷ pos 1 ∷ pos 1 ∷ pos 0 ∷ [])
      ∷ tableau_row 3 (pos 6 ∷ pos 3 ∷ pos 1 ∷ pos 0 ∷ pos 1 ∷ []) ∷ [];
  objective = pos 1 ∷ pos 0 ∷ negsuc 2 ∷ negsuc 1 ∷ pos 0 ∷ pos 0 ∷ [];
}

abbrev pub two_columns_once : Tableau
two_columns_once = record {
  rows = tableau_row 2 (pos 6 ∷ pos 0 ∷ pos 2 ∷ pos 3 ∷ negsuc 0 ∷ [])
      ∷ tableau_row 0 (pos 6 ∷ pos 3 ∷ pos 1 ∷ pos 0 ∷ pos 1 ∷ []) ∷ [];
  objective = pos 1 ∷ pos 6 ∷ pos 0 ∷ negsuc 0 ∷ pos 0 ∷ pos 1 ∷ [];
}

abbrev pub two_columns_twice : Tableau
two_columns_twice = record {
  rows = tableau_row 1 (pos 6 ∷ pos 0 ∷ pos 2 ∷ pos 3 ∷ negsuc 0 ∷ [])
      ∷ tableau_row 0 (pos 2 ∷ pos 2 ∷ pos 0 ∷ negsuc 0 ∷ pos 1 ∷ []) ∷ [];
  objective = pos 2 ∷ pos 18 ∷ pos 0 ∷ pos 0 ∷ pos 3 ∷ pos 1 ∷ [];
}

abbrev pub TwoColumnsOnce : Type 0
TwoColumnsOnce = next (first_tableau two_columns) ≡ To two_columns_once

abbrev pub TwoColumnsTwice : Type 0
TwoColumnsTwice = run_end two_columns 2 ≡ AtOptimum two_columns_twice

abbrev pub TwoColumnsShort : Type 0
TwoColumnsShort = run_end two_columns 1 ≡ AtBudget

-- one column of wide entries: a pivot that compares nothing is in range, and one that compares two such rows is not
abbrev pub one_wide_row : Program
one_wide_row = record { costs = pos 1 ∷ []; rows = row_of (pos (2 ^ 100) ∷ []) (pos (2 ^ 100)) ∷ [] }

abbrev pub two_wide_rows : Program
two_wide_rows = record {
  costs = pos 1 ∷ [];
  rows = row_of (pos (2 ^ 100) ∷ []) (pos (2 ^ 100)) ∷ row_of (pos (2 ^ 100) ∷ []) (pos (2 ^ 100 + 1)) ∷ [];
}

abbrev pub OneWideRow : Type 0
OneWideRow = run_end one_wide_row 1 ≡ AtOptimum (record {
  rows = tableau_row 0 (pos (2 ^ 100) ∷ pos (2 ^ 100) ∷ pos 1 ∷ []) ∷ [];
  objective = pos (2 ^ 100) ∷ pos (2 ^ 100) ∷ pos 0 ∷ pos 1 ∷ [];
})

abbrev pub TwoWideRows : Type 0
TwoWideRows = run_end two_wide_rows 1 ≡ AtWide 1

-- where no cost is positive, no column enters
abbrev pub nothing_gained : Program
nothing_gained = record { costs = pos 0 ∷ negsuc 0 ∷ []; rows = row_of (pos 1 ∷ pos 1 ∷ []) (pos 1) ∷ [] }

abbrev pub NothingGained : Type 0
NothingGained = run_end nothing_gained 0 ≡ AtOptimum (first_tableau nothing_gained)

-- of two rows with the same ratio that of the lower basic column leaves, though it comes last; and the objective row is
-- divided by 2
abbrev pub tied : Program
tied = record {
  costs = pos 1 ∷ pos 1 ∷ [];
  rows = row_of (pos 0 ∷ pos 1 ∷ []) (pos 0) ∷ row_of (pos 2 ∷ pos 1 ∷ []) (pos 0) ∷ [];
}

abbrev pub TieBroken : Type 0
TieBroken = run_end tied 2 ≡ AtOptimum (record {
  rows = tableau_row 2 (pos 0 ∷ negsuc 1 ∷ pos 0 ∷ pos 1 ∷ negsuc 0 ∷ [])
      ∷ tableau_row 1 (pos 0 ∷ pos 2 ∷ pos 1 ∷ pos 0 ∷ pos 1 ∷ []) ∷ [];
  objective = pos 1 ∷ pos 0 ∷ pos 1 ∷ pos 0 ∷ pos 0 ∷ pos 1 ∷ [];
})

-- where the entering column has no positive entry, the objective has no limit
abbrev pub unlimited : Program
unlimited = record { costs = pos 1 ∷ []; rows = row_of (negsuc 0 ∷ []) (pos 1) ∷ [] }

abbrev pub Unlimited : Type 0
Unlimited = run_end unlimited 1 ≡ AtRay
