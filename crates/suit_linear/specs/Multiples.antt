-- Numbers that are multiples of others: what a tableau may be kept as.
use Rattle.std.specs.Prelude.{◌≡◌, ℕ, ◌≤◌, ℤ, pos, ◌*ℤ◌, ◌<ℤ◌, unsigned_abs, List, [], ◌∷◌, All, Option, Some}
use Rattle.std.specs.Prelude.{None}
use Rattle.suit_linear.specs.declared.limits.TheConstants.{MOST_SMALL}
use Rattle.suit_linear.specs.Points.{number_at}
use Rattle.suit_linear.specs.Tableaus.{TableauRow, Tableau}

-- numbers by their indices are a positive multiple of others, or these of them: both ways at once, by two factors
pub record AreMultiples (x y : ℕ → ℤ) : Type 0 where
  pub left : ℤ
  pub right : ℤ
  pub left_positive : pos 0 <ℤ left
  pub right_positive : pos 0 <ℤ right
  pub numbers : (index : ℕ) → left *ℤ x index ≡ right *ℤ y index

-- a row with the same basic column, and multiples of the numbers
pub record IsMultipleRow (row other : TableauRow) : Type 0 where
  pub basic : row.basic ≡ other.basic
  pub numbers : AreMultiples (number_at row.numbers) (number_at other.numbers)

-- rows one by one
abbrev pub AreMultipleRows : List TableauRow → List TableauRow → Type 0
AreMultipleRows [] [] = Unit {0}
AreMultipleRows (row ∷ rows) (other ∷ others) = IsMultipleRow row other × AreMultipleRows rows others
AreMultipleRows [] (other ∷ others) = ⊥
AreMultipleRows (row ∷ rows) [] = ⊥

-- no row, or two such rows
abbrev pub IsMultipleChoice : Option TableauRow → Option TableauRow → Type 0
IsMultipleChoice None None = Unit {0}
IsMultipleChoice (Some row) (Some other) = IsMultipleRow row other
IsMultipleChoice None (Some other) = ⊥
IsMultipleChoice (Some row) None = ⊥

-- a number that two factors of its kind, and the difference of two such products, leave within 127 bits
abbrev pub IsSmall : ℤ → Type 0
IsSmall number = unsigned_abs number ≤ MOST_SMALL

-- every number of a tableau is small
pub record IsSmallTableau (tableau : Tableau) : Type 0 where
  pub rows : All (λ row. All IsSmall row.numbers) tableau.rows
  pub objective : All IsSmall tableau.objective
