-- A tableau kept as one list of numbers: row after row, and then the objective row.
use Rattle.std.specs.Prelude.{◌≡◌, ◌≢◌, ℕ, suc, ◌+◌, ◌*◌, ◌<◌, ℤ, pos, ◌<ℤ◌, List, [], ◌∷◌, length, take, drop}
use Rattle.std.specs.Prelude.{slice_index, set, All, Contains, Some, None, Result, Ok, Err}
use Rattle.suit_num.specs.Narrow.{IsNarrow}
use Rattle.suit_simplex.specs.declared.dense.Dense.{Dense}
use Rattle.suit_linear.specs.Points.{number_at}
use Rattle.suit_linear.specs.Pivots.{combined, content, share, entering, leaving}
use Rattle.suit_linear.specs.Runs.{next, Last, Wide, To}
use Rattle.suit_simplex.specs.declared.row.TooWide.{TooWide}
use Rattle.suit_simplex.specs.declared.solving.Progress.{Progress}
use Rattle.suit_simplex.specs.declared.solving.Progress.TheVariants as advances
use Rattle.suit_linear.specs.Tableaus.{TableauRow, Tableau, entry, reduced_cost}

-- the rows by their basic columns, each of as many numbers as the width
unfoldable pub rows_seen : ℕ → List ℕ → List ℤ → List TableauRow
rows_seen width [] numbers = []
rows_seen width (basic ∷ basics) numbers = record { basic = basic; numbers = take width numbers }
    ∷ rows_seen width basics (drop width numbers)

-- the tableau that is kept
unfoldable pub seen : Dense → Tableau
seen dense = record {
  rows = rows_seen dense.width dense.basics.items dense.numbers.items;
  objective = drop (length dense.basics.items * dense.width) dense.numbers.items;
}

-- the row at an index, where there is one
abbrev pub row_at : Dense → ℕ → TableauRow
row_at dense index = record {
  basic = slice_index dense.basics.items index;
  numbers = take dense.width (drop (index * dense.width) dense.numbers.items);
}

-- the row that leaves, as it is copied, by its basic column
abbrev pub leaver_row : Dense → ℕ → TableauRow
leaver_row dense basic = record { basic = basic; numbers = drop 1 dense.leaver.items }

-- the numbers fill the rows and the objective row, and there is room for the leaving row behind a 0
pub record IsKept (dense : Dense) : Type 0 where
  pub size : length dense.numbers.items ≡ length dense.basics.items * dense.width + suc dense.width
  pub some : 0 < dense.width
  pub basics : All (λ basic. suc basic < dense.width) dense.basics.items
  pub narrow : All IsNarrow dense.numbers.items
  pub narrow_leaver : All IsNarrow dense.leaver.items
  pub room : length dense.leaver.items ≡ suc dense.width
  pub ahead : number_at dense.leaver.items 0 ≡ pos 0

-- a change of the rows leaves the widths, the number of rows and the copy of the leaving row
pub record KeepsShape (old new : Dense) : Type 0 where
  pub width : new.width ≡ old.width
  pub count : length new.basics.items ≡ length old.basics.items
  pub leaver : new.leaver.items ≡ old.leaver.items

-- a tableau with another row at an index
abbrev pub with_row : Tableau → ℕ → TableauRow → Tableau
with_row tableau index row = record tableau { rows = set tableau.rows index row }

-- by the entry p of the leaving row a row with the entry t is cleared without a division by 0
abbrev pub CanClear : ℤ → ℤ → List ℤ → List ℤ → Type 0
CanClear p t numbers leaver = 0 < content (combined (share p t) numbers (share t p) leaver)

-- a pivot of the tableau on the column and the leaving row divides by no 0
pub record CanPivot (tableau : Tableau) (column : ℕ) (leaver : TableauRow) : Type 0 where
  pub positive : pos 0 <ℤ entry leaver column
  pub rows : (row : TableauRow) → Contains tableau.rows row → row.basic ≢ leaver.basic
      → CanClear (entry leaver column) (entry row column) row.numbers leaver.numbers
  pub objective : CanClear (entry leaver column) (reduced_cost tableau column) tableau.objective (pos 0
      ∷ leaver.numbers)

-- where a column enters, a row leaves, and the pivot can be made
pub record CanAdvance (dense : Dense) : Type 0 where
  pub column : (column : ℕ) → entering (seen dense) ≡ Some column → suc column < dense.width
  pub row : (column : ℕ) → entering (seen dense) ≡ Some column → ¬ (leaving (seen dense) column ≡ None)
  pub pivot : (column : ℕ) (leaver : TableauRow) → entering (seen dense) ≡ Some column
      → leaving (seen dense) column ≡ Some leaver → CanPivot (seen dense) column leaver

-- what one step of the run has made of a tableau
abbrev pub Advances : Result Progress TooWide → Dense → Dense → Type 0
Advances (Ok advances.Last) old new = (next (seen old) ≡ Last) × IsKept new × (new.width ≡ old.width)
    × (seen new ≡ seen old)
Advances (Err error) old new = next (seen old) ≡ Wide
Advances (Ok advances.Pivoted) old new = (next (seen old) ≡ To (seen new)) × IsKept new × (new.width ≡ old.width)
