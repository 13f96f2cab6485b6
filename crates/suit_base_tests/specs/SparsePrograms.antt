-- Small programs of the tests, without their zeros.
use Rattle.std.specs.Prelude.{◌^◌, ℕ, ℤ, pos, negsuc, [], ◌∷◌}
use Rattle.suit_linear.specs.declared.sparse.Entry.{Entry}
use Rattle.suit_linear.specs.declared.sparse.SparseProgram.{SparseProgram}

abbrev pub part : ℕ → ℤ → Entry
part column number = record { column = column; number = number }

-- 3x + 2y is to be largest where x + y is at most 4 and 3x + y at most 6, with entries out of order, in parts, and of
-- no column
abbrev pub scattered_columns : SparseProgram
scattered_columns = record {
  costs = pos 3 ∷ pos 2 ∷ [];
  rows = record { entries = part 1 (pos 1) ∷ part 2 (pos 9) ∷ part 0 (pos 1) ∷ []; bound = pos 4 }
      ∷ record { entries = part 0 (pos 5) ∷ part 1 (pos 1) ∷ part 0 (negsuc 1) ∷ []; bound = pos 6 } ∷ [];
}

-- a wide bound of narrow entries
abbrev pub one_wide_bound : SparseProgram
one_wide_bound = record {
  costs = pos 1 ∷ [];
  rows = record { entries = part 0 (pos 1) ∷ []; bound = pos (2 ^ 100) } ∷ [];
}
