use Rattle.std.specs.Prelude.{ℕ, zero, suc, ◌+◌, List, [], ◌∷◌, slice_index}

-- the next row of Pascal's triangle from a place on, where `left` stands before that place in the row above
unfoldable pub next_row : ℕ → List ℕ → List ℕ
next_row left [] = left ∷ []
next_row left (x ∷ xs) = (left + x) ∷ next_row x xs

-- row n of Pascal's triangle, which has n + 1 numbers
unfoldable pub binomial_row : ℕ → List ℕ
binomial_row zero = 1 ∷ []
binomial_row (suc n) = next_row 0 (binomial_row n)

-- the number of ways to choose k things from n: number k of row n, and 0 past the row's end
unfoldable pub binomial : ℕ → ℕ → ℕ
binomial n k = slice_index (binomial_row n) k
