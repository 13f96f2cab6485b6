-- What is kept of a tableau, and how a pivot changes it.
use Rattle.std.specs.Prelude.{◌≡◌, ◌≢◌, ℕ, suc, ◌+◌, ◌≤◌, ◌^◌, ℤ, pos, ◌*ℤ◌, ◌-ℤ◌, ◌<ℤ◌, unsigned_abs, List, ◌∷◌}
use Rattle.std.specs.Prelude.{length, All}
use Rattle.std.specs.Prelude.{slice_get, Some, None}
use Rattle.suit_linear.specs.declared.limits.TheConstants.{MOST_SMALL}
use Rattle.suit_linear.specs.declared.program.Program.{Program}
use Rattle.suit_linear.specs.declared.program.ProgramRow.{ProgramRow}
use Rattle.suit_linear.specs.Points.{number_at, dot}
use Rattle.suit_linear.specs.Tableaus.{TableauRow, Tableau, first_tableau}
use Rattle.suit_linear.specs.Pivots.{content, entering}
use Rattle.suit_linear.specs.Runs.{To, next}
use Rattle.suit_linear.specs.Multiples.{AreMultiples, IsSmall}
use Rattle.suit_linear.proofs.SoundTableaus.{IsSound}
use Rattle.suit_linear_fast.specs.declared.lines.Line.{Line}
use Rattle.suit_linear_fast.specs.declared.pivot.Progress.{Progress}
use Rattle.suit_linear_fast.specs.declared.pivot.Progress.TheVariants as progresses
use Rattle.suit_linear_fast.specs.Lines.{IsLineOf, IsChangedLine}

-- lines tell of the rows of a tableau
pub record AreLinesOf (lines : List Line) (tableau : Tableau) : Type 0 where
  pub count : length lines ≡ length tableau.rows
  pub each : (index : ℕ) (line : Line) (row : TableauRow) → slice_get lines index ≡ Some line
      → slice_get tableau.rows index ≡ Some row → IsLineOf line row

-- no row of a tableau has a common divisor of its numbers, nor has the objective row
pub record IsPrimitive (tableau : Tableau) : Type 0 where
  pub rows : All (λ row. content row.numbers ≡ 1) tableau.rows
  pub objective : content tableau.objective ≡ 1

-- lines and a multiple of the objective row tell of a tableau of a program's run
pub record IsStateOf (program : Program) (lines : List Line) (objective : List ℤ) (tableau : Tableau) : Type 0 where
  pub sound : IsSound program tableau
  pub primitive : IsPrimitive tableau
  pub told : AreLinesOf lines tableau
  pub width : length objective ≡ length tableau.objective
  pub numbers : AreMultiples (number_at objective) (number_at tableau.objective)
  pub small : All IsSmall objective

-- numbers that each solution of the first rows takes to 0
abbrev pub AreSolved : Program → List ℤ → Type 0
AreSolved program numbers = (given : ℕ → ℤ) → All (λ row. dot row.numbers given ≡ pos 0) (first_tableau program).rows
    → dot numbers given ≡ pos 0

-- of the basic columns numbers have that of one line alone
pub record IsApart (lines : List Line) (leaving : ℕ) (numbers : List ℤ) : Type 0 where
  pub own : (line : Line) → slice_get lines leaving ≡ Some line → pos 0 <ℤ number_at numbers (suc line.basic)
  pub others : (index : ℕ) (line : Line) → index ≢ leaving → slice_get lines index ≡ Some line
      → number_at numbers (suc line.basic) ≡ pos 0

-- the leaving line after the pivot, from the numbers of its row
pub record IsTop (column : ℕ) (numbers : List ℤ) (top : Line) : Type 0 where
  pub basic : top.basic ≡ column
  pub own : number_at numbers (suc column) ≡ top.own
  pub positive : pos 0 <ℤ top.own
  pub bound : number_at numbers 0 ≡ top.bound
  pub sizes : (index : ℕ) → unsigned_abs (number_at numbers index) ≤ top.size
  pub small : top.size ≤ MOST_SMALL

-- the lines after a pivot
pub record AreChanged (lines : List Line) (entries : List ℤ) (leaving : ℕ) (top : Line) (nexts : List Line) : Type
    0 where
  pub count : length nexts ≡ length lines
  pub leaver : slice_get nexts leaving ≡ Some top
  pub others : (index : ℕ) (line next : Line) → index ≢ leaving → slice_get lines index ≡ Some line
      → slice_get nexts index ≡ Some next → IsChangedLine line (number_at entries index) top.own top next

-- numbers after the objective row is cleared by those of a leaving row, which has no part in the scale
pub record IsCombined (own times : ℤ) (objective numbers next : List ℤ) : Type 0 where
  pub count : length next ≡ length objective
  pub changed : (index : ℕ) → number_at next index
      ≡ own *ℤ number_at objective index -ℤ times *ℤ number_at (pos 0 ∷ numbers) index
  pub small : All IsSmall next

-- the objective row after a pivot
pub record IsChangedObjective (objective numbers : List ℤ) (column : ℕ) (pivot : ℤ) (next : List ℤ) : Type 0 where
  pub own : ℤ
  pub times : ℤ
  pub positive : pos 0 <ℤ own
  pub balance : own *ℤ number_at objective (suc (suc column)) ≡ times *ℤ pivot
  pub combined : IsCombined own times objective numbers next

-- numbers divided by a divisor that they have in common
pub record IsShrunk (before after : List ℤ) : Type 0 where
  pub divisor : ℤ
  pub positive : pos 0 <ℤ divisor
  pub count : length after ≡ length before
  pub numbers : (index : ℕ) → number_at after index *ℤ divisor ≡ number_at before index

-- both
abbrev pub ChangesObjective : List ℤ → List ℤ → ℕ → ℤ → List ℤ → Type 0
ChangesObjective objective numbers column pivot next = (middle : List ℤ)
    × IsChangedObjective objective numbers column pivot middle × IsShrunk middle next

-- what one step of the run has made of what is kept
abbrev pub Advances : Program → Tableau → Progress → List Line → List ℤ → Type 0
Advances program tableau progresses.Last lines objective = (entering tableau ≡ None)
    × IsStateOf program lines objective tableau
Advances program tableau progresses.Pivoted lines objective = (later : Tableau) × (next tableau ≡ To later)
    × IsStateOf program lines objective later
Advances program tableau progresses.Lost lines objective = Unit {0}

-- the line of a row of a program before the first pivot
pub record IsFirstLine (columns index : ℕ) (row : ProgramRow) (line : Line) : Type 0 where
  pub basic : line.basic ≡ columns + index
  pub own : line.own ≡ pos 1
  pub bound : line.bound ≡ row.bound
  pub bounds : unsigned_abs row.bound ≤ line.size
  pub entries : (column : ℕ) → unsigned_abs (number_at row.entries column) ≤ line.size
  pub some : 1 ≤ line.size
  pub small : line.size ≤ MOST_SMALL

-- the lines before the first pivot
pub record AreFirstLines (program : Program) (lines : List Line) : Type 0 where
  pub count : length lines ≡ length program.rows
  pub each : (index : ℕ) (line : Line) → slice_get lines index ≡ Some line → (row : ProgramRow)
      → slice_get program.rows index ≡ Some row → IsFirstLine (length program.costs) index row line
