-- Rows of a tableau by what is kept of them.
use Rattle.std.specs.Prelude.{◌≡◌, ◌≢◌, ◌⊎◌, ℕ, suc, ◌+◌, ◌*◌, ◌≤◌, ℤ, pos, ◌*ℤ◌, ◌-ℤ◌, ◌+ℤ◌, ◌<ℤ◌, ◌^◌, unsigned_abs}
use Rattle.std.specs.Prelude.{List, [], ◌∷◌}
use Rattle.std.specs.Prelude.{length, slice_get, Option, Some, None, All, ◌==◌, if◌then◌else◌, Bool, ◌&&◌, ◌||◌, int_lt}
use Rattle.std.specs.Prelude.{nat_lt}
use Rattle.std.specs.Ordering.{int_eq}
use Rattle.suit_num.specs.declared.fraction.Frac.{Frac}
use Rattle.suit_linear_fast.specs.declared.lines.Line.{Line}
use Rattle.suit_linear.specs.declared.limits.TheConstants.{MOST_SMALL}
use Rattle.suit_linear.specs.Points.{number_at, dot}
use Rattle.suit_linear.specs.declared.program.Program.{Program}
use Rattle.suit_linear.specs.Tableaus.{TableauRow, bound, entry, first_tableau}
use Rattle.suit_linear.specs.Multiples.{AreMultiples}

-- a line tells of a row, by some multiple of it: its basic column, its number there, its bound, and a size that no
-- number is above
pub record IsLineOf (line : Line) (row : TableauRow) : Type 0 where
  pub basic : line.basic ≡ row.basic
  pub multiple : List ℤ
  pub width : length multiple ≡ length row.numbers
  pub numbers : AreMultiples (number_at multiple) (number_at row.numbers)
  pub own : number_at multiple (suc row.basic) ≡ line.own
  pub bound : number_at multiple 0 ≡ line.bound
  pub sizes : (index : ℕ) → unsigned_abs (number_at multiple index) ≤ line.size
  pub small : line.size ≤ MOST_SMALL

-- 1 at an index and 0 elsewhere
abbrev pub unit : ℕ → ℕ → ℤ
unit place index = if index == place then pos 1 else pos 0

-- shares of the lines' basic columns, given to the indices of a row's numbers
unfoldable pub spread : List Line → List ℤ → ℕ → ℤ
spread [] shares index = pos 0
spread (line ∷ lines) [] index = pos 0
spread (line ∷ lines) (share ∷ shares) index = share *ℤ unit (suc line.basic) index +ℤ spread lines shares index

-- what the shares come to, by what each basic column counts
unfoldable pub shared : List Line → List ℤ → (ℕ → ℤ) → ℤ
shared [] shares worth = pos 0
shared (line ∷ lines) [] worth = pos 0
shared (line ∷ lines) (share ∷ shares) worth = share *ℤ worth line.basic +ℤ shared lines shares worth

-- the shares, less a scale in one more column
abbrev pub exchange : List Line → List ℤ → ℕ → ℤ → ℕ → ℤ
exchange lines shares column scale index = spread lines shares index -ℤ scale *ℤ unit (suc column) index

-- the program's column is made up of the basic columns by shares, which tell the column's entries in the lines
pub record IsColumn (program : Program) (lines : List Line) (column : ℕ) (entries : List ℤ) : Type 0 where
  pub shares : List ℤ
  pub scale : ℤ
  pub positive : pos 0 <ℤ scale
  pub count : length shares ≡ length lines
  pub counted : length entries ≡ length lines
  pub balance : (index : ℕ) (line : Line) → slice_get lines index ≡ Some line
      → number_at shares index *ℤ line.own ≡ number_at entries index *ℤ scale
  pub solves : All (λ row. dot row.numbers (exchange lines shares column scale) ≡ pos 0) (first_tableau program).rows

-- a line and its entry in a column are, by one multiple, those of a row
pub record IsShownBy (column : ℕ) (line : Line) (number : ℤ) (row : TableauRow) : Type 0 where
  pub basic : line.basic ≡ row.basic
  pub left : ℤ
  pub right : ℤ
  pub left_positive : pos 0 <ℤ left
  pub right_positive : pos 0 <ℤ right
  pub bounds : left *ℤ line.bound ≡ right *ℤ bound row
  pub entries : left *ℤ number ≡ right *ℤ entry row column

-- whether a line takes the place of the best one so far
abbrev pub is_better_line : Line → ℤ → Line → ℤ → Bool
is_better_line best best_entry line number =
    int_lt (line.bound *ℤ best_entry) (best.bound *ℤ number)
    || (int_eq (line.bound *ℤ best_entry) (best.bound *ℤ number) && nat_lt line.basic best.basic)

-- a line after a pivot, by its entry in the column, the leaving line's, and the leaving line after it
pub record IsChangedLine (line : Line) (entry pivot : ℤ) (leaver next : Line) : Type 0 where
  pub own : ℤ
  pub times : ℤ
  pub positive : pos 0 <ℤ own
  pub balance : own *ℤ entry ≡ times *ℤ pivot
  pub basic : next.basic ≡ line.basic
  pub owns : next.own ≡ own *ℤ line.own
  pub bounds : next.bound ≡ own *ℤ line.bound -ℤ times *ℤ leaver.bound
  pub sizes : unsigned_abs own * line.size + unsigned_abs times * leaver.size ≤ next.size
  pub small : line.size ≤ MOST_SMALL → next.size ≤ MOST_SMALL

-- the lines are shown by rows, one by one
pub record AreShown (column : ℕ) (lines : List Line) (entries : List ℤ) (rows : List TableauRow) : Type 0 where
  pub count : length lines ≡ length rows
  pub each : (index : ℕ) (line : Line) (row : TableauRow) → slice_get lines index ≡ Some line
      → slice_get rows index ≡ Some row → IsShownBy column line (number_at entries index) row

-- the row at an index, where there is one
abbrev pub chosen : List TableauRow → Option ℕ → Option TableauRow
chosen rows None = None
chosen rows (Some index) = slice_get rows index

-- the lines' shares of a column by a scale: the entries times the scale over their own numbers
pub record IsShared (lines : List Line) (entries : List ℤ) (scale : ℤ) (shares : List ℤ) : Type 0 where
  pub positive : pos 0 <ℤ scale
  pub count : length shares ≡ length lines
  pub counted : length entries ≡ length lines
  pub balance : (index : ℕ) (line : Line) → slice_get lines index ≡ Some line
      → number_at shares index *ℤ line.own ≡ number_at entries index *ℤ scale

-- a fraction is the bound of the line whose basic column this is over the line's own number, and 0 where there is none
abbrev pub IsLineValue : List Line → ℕ → Frac → Type 0
IsLineValue lines column part =
    ((index : ℕ) × (line : Line) × (slice_get lines index ≡ Some line) × (line.basic ≡ column)
    × (part.num *ℤ line.own ≡ line.bound *ℤ part.den))
    ⊎ (((index : ℕ) (line : Line) → slice_get lines index ≡ Some line → line.basic ≢ column) × (part.num ≡ pos 0))
