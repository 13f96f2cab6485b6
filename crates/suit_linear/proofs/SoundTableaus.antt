-- What holds of every tableau of a run.
use Rattle.std.proofs.Common.{◌≡◌, ◌≢◌, ℕ, suc, ◌+◌, ◌<◌, List, length, drop, All, Contains, Some}
use Rattle.std.specs.Prelude.{ℤ, pos, neg_ℤ, ◌*ℤ◌, ◌<ℤ◌, ◌≤ℤ◌, slice_get}
use Rattle.suit_linear.specs.declared.program.Program.{Program}
use Rattle.suit_linear.specs.Points.{dot}
use Rattle.suit_linear.specs.Tableaus.{TableauRow, Tableau, bound, entry, scale, reduced_cost, first_tableau}

-- the numbers given to the indices solve each row; index 0, the bound's, is given the negated denominator
abbrev pub Solves : List TableauRow → (ℕ → ℤ) → Type 0
Solves rows given = All (λ row. dot row.numbers given ≡ pos 0) rows

-- a tableau is one of the program, at a point where no column is below 0
pub record IsSound (program : Program) (tableau : Tableau) : Type 0 where
  pub count : length tableau.rows ≡ length program.rows
  pub widths : All (λ row. length row.numbers ≡ suc (length program.costs + length program.rows)) tableau.rows
  pub objective_width : length tableau.objective ≡ suc (suc (length program.costs + length program.rows))
  pub basics_differ : (index other : ℕ) (row next : TableauRow) → slice_get tableau.rows index ≡ Some row
      → slice_get tableau.rows other ≡ Some next → row.basic ≡ next.basic → index ≡ other
  pub basics_low : All (λ row. row.basic < length program.costs + length program.rows) tableau.rows
  pub pivotal : All (λ row. pos 0 <ℤ entry row row.basic) tableau.rows
  pub apart : (row next : TableauRow) → Contains tableau.rows row → Contains tableau.rows next → row.basic ≢ next.basic
      → entry next row.basic ≡ pos 0
  pub costs_apart : All (λ row. reduced_cost tableau row.basic ≡ pos 0) tableau.rows
  pub bounds : All (λ row. pos 0 ≤ℤ bound row) tableau.rows
  pub scaled : pos 0 <ℤ scale tableau
  pub solved_first : (given : ℕ → ℤ) → Solves tableau.rows given → Solves (first_tableau program).rows given
  pub solved_here : (given : ℕ → ℤ) → Solves (first_tableau program).rows given → Solves tableau.rows given
  pub objective : (given : ℕ → ℤ) → Solves (first_tableau program).rows given
      → dot (drop 1 tableau.objective) given ≡ neg_ℤ (scale tableau *ℤ dot program.costs (λ column. given (suc column)))
