-- Points, and what whole numbers come to at them.
use Rattle.std.specs.Prelude.{ℕ, suc, ℤ, pos, ◌+ℤ◌, ◌*ℤ◌, List, [], ◌∷◌, slice_index_or}

-- the number at an index, and 0 past the end
abbrev pub number_at : List ℤ → ℕ → ℤ
number_at numbers index = slice_index_or numbers index (pos 0)

-- the sum of the products of the numbers with what is given to their indices
unfoldable pub dot : List ℤ → (ℕ → ℤ) → ℤ
dot [] given = pos 0
dot (number ∷ numbers) given = number *ℤ given 0 +ℤ dot numbers (λ index. given (suc index))
