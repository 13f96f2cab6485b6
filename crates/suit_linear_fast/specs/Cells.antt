-- Numbers that are mostly 0, as cells.
use Rattle.std.specs.Prelude.{ℕ, ℤ, pos, ◌+ℤ◌, List, [], ◌∷◌, ◌==◌, if◌then◌else◌}
use Rattle.suit_linear_fast.specs.declared.cells.Cell.{Cell}

-- a number at an index and 0 elsewhere
abbrev pub number_of : Cell → ℕ → ℤ
number_of cell index = if index == cell.index then cell.number else pos 0

-- the number at an index: the sum of those of all cells there
unfoldable pub number_in : List Cell → ℕ → ℤ
number_in [] index = pos 0
number_in (cell ∷ cells) index = number_of cell index +ℤ number_in cells index
