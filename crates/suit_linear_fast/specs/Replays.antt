-- What is guessed from the pivots so far, in numbers of 64 bits that wrap.
use Rattle.std.specs.Prelude.{◌≡◌, ℕ, zero, suc, ◌<◌, ◌^◌, nat_lt, ℤ, pos, int_lt, int_div, ◌+ℤ◌, ◌-ℤ◌, ◌*ℤ◌}
use Rattle.std.specs.Prelude.{List, [], ◌∷◌, length}
use Rattle.std.specs.Prelude.{◌==◌, if◌then◌else◌, ◌&&◌, nat_le, ◌-◌, ◌+◌, take, drop, negsuc, set, slice_get}
use Rattle.std.specs.Prelude.{slice_index_or, Option, None, Some, FitsSigned}
use Rattle.std.specs.Option.{MatchOption}
use Rattle.std.specs.Int.{int_wrap, w64}
use Rattle.suit_linear.specs.Points.{number_at}
use Rattle.suit_linear.specs.Pivots.{content}
use Rattle.suit_linear_fast.specs.declared.cells.Cell.{Cell}
use Rattle.suit_linear_fast.specs.declared.past_pivots.Change.{Change}
use Rattle.suit_linear_fast.specs.declared.past_pivots.Leaver.{Leaver}
use Rattle.suit_linear_fast.specs.declared.past_pivots.PastPivots.{PastPivots}
use Rattle.suit_linear_fast.specs.declared.sparse.Sparse.{Sparse}
use Rattle.suit_linear_fast.specs.Cells.{number_in}

-- what 64 bits keep of a number
abbrev pub wrapped : ℤ → ℤ
wrapped number = int_wrap w64 number

-- two numbers agree in the last 64 bits
abbrev pub Agree : ℤ → ℤ → Type 0
Agree a b = wrapped a ≡ wrapped b

-- what a change takes of a row
abbrev pub times_of : Change → ℕ → ℤ
times_of change row = if row == change.row then change.times else pos 0

-- what changes take of a row: the sum of what each one takes
unfoldable pub times_in : List Change → ℕ → ℤ
times_in [] row = pos 0
times_in (change ∷ changes) row = times_of change row +ℤ times_in changes row

-- a factor at an index, and 1 elsewhere
abbrev pub factor_of : Cell → ℕ → ℤ
factor_of cell index = if index == cell.index then cell.number else pos 1

-- the factor at an index: the product of those of all cells there
unfoldable pub factor_in : List Cell → ℕ → ℤ
factor_in [] index = pos 1
factor_in (cell ∷ cells) index = factor_of cell index *ℤ factor_in cells index

-- from each number a multiple of another is taken
pub record AreTaken (before : List ℤ) (times : ℤ) (others : ℕ → ℤ) (after : List ℤ) : Type 0 where
  pub count : length after ≡ length before
  pub numbers : (index : ℕ) → index < length before
      → Agree (number_at after index) (number_at before index -ℤ times *ℤ others index)

-- each number is multiplied by a factor
pub record AreMultiplied (before : List ℤ) (factors : ℕ → ℤ) (after : List ℤ) : Type 0 where
  pub count : length after ≡ length before
  pub numbers : (index : ℕ) → index < length before
      → Agree (number_at after index) (number_at before index *ℤ factors index)

-- the greatest common divisor of numbers, or 1 where it does not fit 64 bits
abbrev pub short_content : List ℤ → ℤ
short_content numbers = if nat_lt (content numbers) (2 ^ 63) then pos (content numbers) else pos 1

-- numbers divided by a divisor that they have in common
pub record AreDivided (before : List ℤ) (divisor : ℤ) (after : List ℤ) : Type 0 where
  pub count : length after ≡ length before
  pub numbers : (index : ℕ) → number_at after index *ℤ divisor ≡ number_at before index

-- a number over a divisor, where that is more than 1
abbrev pub share_of : ℤ → ℤ → ℤ
share_of number divisor = if int_lt (pos 1) divisor then int_div number divisor else number

-- ---- what is kept of the pivots

-- the part of a list between two indices, and nothing where there is none
abbrev pub between : {A : Type 0} → List A → ℕ → ℕ → List A
between items from to = if nat_le from to && nat_le to (length items) then take (to - from) (drop from items) else []

-- a count as it is kept
abbrev pub short_count : ℕ → ℕ
short_count count = if nat_lt count (2 ^ 32) then count else 0

-- where a pivot's part of a list ends: where the next pivot's begins, or with the list
abbrev pub end_of : (Leaver → ℕ) → Option Leaver → ℕ → ℕ
end_of begin None count = short_count count
end_of begin (Some next) count = begin next

-- a pivot's changes, the factors other than 1 of the rows that change, and what the leaving row takes of the first rows
abbrev pub changes_of : PastPivots → ℕ → Leaver → List Change
changes_of past pivot leaver = between past.changes.items leaver.changes
    (end_of (λ next. next.changes) (slice_get past.leavers.items (suc pivot)) (length past.changes.items))

abbrev pub multiples_of : PastPivots → ℕ → Leaver → List Cell
multiples_of past pivot leaver = between past.multiples.items leaver.multiples
    (end_of (λ next. next.multiples) (slice_get past.leavers.items (suc pivot)) (length past.multiples.items))

abbrev pub weights_of : PastPivots → ℕ → Leaver → List Cell
weights_of past pivot leaver = between past.weights.items leaver.weights
    (end_of (λ next. next.weights) (slice_get past.leavers.items (suc pivot)) (length past.weights.items))

-- ---- rows

-- what a row that left takes of a first row
abbrev pub taken_by : PastPivots → ℕ → Option Leaver → ℕ → ℤ
taken_by past pivot None index = pos 0
taken_by past pivot (Some leaver) index = number_in (weights_of past pivot leaver) index

abbrev pub taken_at : PastPivots → ℕ → ℕ → ℤ
taken_at past pivot index = taken_by past pivot (slice_get past.leavers.items pivot) index

-- what a row takes of a first row before it changes: that is itself, until it leaves
abbrev pub row_first : PastPivots → ℕ → ℕ → ℕ → ℤ
row_first past row zero index = if index == row then pos 1 else pos 0
row_first past row (suc pivot) index = taken_at past pivot index

-- a row after a change: the row before it by its factor, less a multiple of the row that left
abbrev pub row_changed : PastPivots → Option Change → (ℕ → ℕ → ℤ) → ℕ → ℤ
row_changed past None rows index = pos 0
row_changed past (Some change) rows index =
    pos change.own *ℤ rows change.before index -ℤ change.times *ℤ taken_at past change.pivot index

-- a row after the last of its changes, of which there are at most so many
unfoldable pub row_after : ℕ → PastPivots → ℕ → ℕ → ℕ → ℤ
row_after zero past row count index = row_first past row (slice_index_or past.left.items row 0) index
row_after (suc most) past row zero index = row_first past row (slice_index_or past.left.items row 0) index
row_after (suc most) past row (suc last) index =
    row_changed past (slice_get past.changes.items last) (row_after most past row) index

abbrev pub row_now : PastPivots → ℕ → ℕ → ℤ
row_now past row index =
    row_after (length past.changes.items) past row (slice_index_or past.last.items row 0) index

-- numbers agree with what a row takes of the first rows
pub record IsRow (past : PastPivots) (row : ℕ) (weights : List ℤ) : Type 0 where
  pub numbers : (index : ℕ) → index < length weights → Agree (number_at weights index) (row_now past row index)

-- a row is known
pub record Knows (past : PastPivots) (row : ℕ) : Type 0 where
  pub left : row < length past.left.items
  pub last : row < length past.last.items

-- what a row takes of the first rows, divided by the greatest divisor that its numbers have in common
pub record IsDividedRow (past : PastPivots) (row : ℕ) (divisor : ℤ) (weights : List ℤ) : Type 0 where
  pub guess : List ℤ
  pub told : Knows past row → row < length guess → IsRow past row guess
  pub divisor_is : divisor ≡ short_content guess
  pub divided : AreDivided guess divisor weights

-- ---- columns

-- a row's entry is set, and cleared from the rows that a pivot changes
abbrev pub IsCleared : PastPivots → ℕ → Leaver → ℤ → List ℤ → List ℤ → Type 0
IsCleared past pivot leaver entry before after =
    AreTaken (set before leaver.row entry) entry (times_in (changes_of past pivot leaver)) after

-- a column after a pivot: the rows that change are multiplied by their factors, and the entry of the row that leaves
-- is divided
pub record IsPivoted (past : PastPivots) (pivot : ℕ) (leaver : Leaver) (before after : List ℤ) : Type 0 where
  pub middle : List ℤ
  pub multiplied : AreMultiplied before (factor_in (multiples_of past pivot leaver)) middle
  pub short : leaver.row < length middle → FitsSigned w64 (number_at middle leaver.row)
  pub cleared : IsCleared past pivot leaver (share_of (number_at middle leaver.row) leaver.divisor) middle after

-- the same, of a pivot by its index
abbrev pub IsPivotedAt : PastPivots → ℕ → List ℤ → List ℤ → Type 0
IsPivotedAt past pivot before after = MatchOption (slice_get past.leavers.items pivot) (after ≡ before)
    (λ leaver. IsPivoted past pivot leaver before after)

-- a column after so many pivots, from a first one on
unfoldable pub Replays : PastPivots → ℕ → ℕ → List ℤ → List ℤ → Type 0
Replays past first zero before after = after ≡ before
Replays past first (suc count) before after =
    (middle : List ℤ) × Replays past first count before middle × IsPivotedAt past (first + count) middle after

-- a column begins as that of the program
abbrev pub IsProgramColumn : Sparse → ℕ → List ℤ → List ℤ → Type 0
IsProgramColumn sparse column before after = MatchOption (slice_get sparse.columns.items column) (after ≡ before)
    (λ cells. AreTaken before (negsuc 0) (number_in cells.items) after)

-- and it begins again after so many pivots, where it left at the last of them as the column of its row
abbrev pub IsBegun : Sparse → PastPivots → ℕ → ℕ → ℕ → List ℤ → List ℤ → Type 0
IsBegun sparse past column zero first before after = (first ≡ 0) × IsProgramColumn sparse column before after
IsBegun sparse past column (suc pivot) first before after =
    MatchOption (slice_get past.leavers.items pivot)
    ((first ≡ 0) × IsProgramColumn sparse column before after)
    (λ leaver. (first ≡ suc pivot) × IsCleared past pivot leaver leaver.own before after)

-- numbers are the entries of a column by the replay of the pivots since it began
pub record IsColumnNow (sparse : Sparse) (past : PastPivots) (column : ℕ) (entries : List ℤ) : Type 0 where
  pub zeros : List ℤ
  pub first : ℕ
  pub begun : List ℤ
  pub are_zero : (index : ℕ) → number_at zeros index ≡ pos 0
  pub begins : IsBegun sparse past column (slice_index_or past.left_at.items column 0) first zeros begun
  pub replayed : Replays past first (length past.leavers.items - first) begun entries
