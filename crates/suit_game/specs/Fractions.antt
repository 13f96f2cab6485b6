-- Fractions of whole numbers, and weighted means of them.
use Rattle.std.specs.Prelude.{◌≡◌, ℕ, ◌+◌, ◌*◌, ◌≤◌, List, [], ◌∷◌}

-- a numerator over a denominator, which need not be reduced
pub record Fraction : Type 0 where
  pub num : ℕ
  pub den : ℕ

-- a whole number
abbrev pub whole : ℕ → Fraction
whole n = record { num = n; den = 1 }

-- a fraction is at least num / den, by products
abbrev pub IsAtLeast : Fraction → ℕ → ℕ → Type 0
IsAtLeast fraction num den = num * fraction.den ≤ fraction.num * den

-- a fraction is at most num / den
abbrev pub IsAtMost : Fraction → ℕ → ℕ → Type 0
IsAtMost fraction num den = fraction.num * den ≤ num * fraction.den

-- a fraction equals num / den
abbrev pub IsExactly : Fraction → ℕ → ℕ → Type 0
IsExactly fraction num den = fraction.num * den ≡ num * fraction.den

-- the sum of weights
unfoldable pub total_weight : List (ℕ × Fraction) → ℕ
total_weight [] = 0
total_weight (item ∷ items) = item.0 + total_weight items

-- the sum of fractions times their weights
unfoldable pub weighted_sum : List (ℕ × Fraction) → Fraction
weighted_sum [] = whole 0
weighted_sum (item ∷ items) =
    let rest : Fraction = weighted_sum items in
    record { num = item.0 * item.1.num * rest.den + rest.num * item.1.den; den = item.1.den * rest.den }

-- the weighted sum divided by the sum of the weights
abbrev pub mean : List (ℕ × Fraction) → Fraction
mean items = record { num = (weighted_sum items).num; den = total_weight items * (weighted_sum items).den }
