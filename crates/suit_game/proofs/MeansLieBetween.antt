-- Weighted means: their denominators, and bounds of them.
use Rattle.std.proofs.Common.{ℕ, ◌+◌, ◌*◌, ◌<◌, ◌≤◌, List, [], ◌∷◌, arith}
use Rattle.std.proofs.Math.Nat.{mul-le-mul_left, mul-pos}
use Rattle.std.specs.List.{AllByRecursion}
use Rattle.suit_game.specs.Fractions.{Fraction, IsAtLeast, IsAtMost, total_weight, weighted_sum, mean}

-- a sum of fractions with denominators above 0 has one
pub weighted_sum-den : (items : List (ℕ × Fraction)) → AllByRecursion (λ item. 0 < item.1.den) items
    → 0 < (weighted_sum items).den
unfolding weighted_sum
weighted_sum-den [] each = omega arith
weighted_sum-den (item ∷ items) each = mul-pos each.0 (weighted_sum-den items each.1)

-- and so has their mean, where some item has a weight
pub mean-den : (items : List (ℕ × Fraction)) → AllByRecursion (λ item. 0 < item.1.den) items → 0 < total_weight items
    → 0 < (mean items).den
mean-den items each some = mul-pos some (weighted_sum-den items each)

least_step : (num den w fn fd t rn rd : ℕ) → num * fd ≤ fn * den → num * (t * rd) ≤ rn * den
    → num * ((w + t) * (fd * rd)) ≤ (w * fn * rd + rn * fd) * den
least_step num den w fn fd t rn rd here rest = omega (arith, mul-le-mul_left (w * rd) here, mul-le-mul_left fd rest)

most_step : (num den w fn fd t rn rd : ℕ) → fn * den ≤ num * fd → rn * den ≤ num * (t * rd)
    → (w * fn * rd + rn * fd) * den ≤ num * ((w + t) * (fd * rd))
most_step num den w fn fd t rn rd here rest = omega (arith, mul-le-mul_left (w * rd) here, mul-le-mul_left fd rest)

-- a mean is at least what each of its items is
pub mean-least : (num den : ℕ) (items : List (ℕ × Fraction)) → AllByRecursion (λ item. IsAtLeast item.1 num den) items
    → IsAtLeast (mean items) num den
unfolding weighted_sum total_weight
mean-least num den [] each = omega arith
mean-least num den (item ∷ items) each =
    least_step num den item.0 item.1.num item.1.den (total_weight items) (weighted_sum items).num
    (weighted_sum items).den
    each.0 (mean-least num den items each.1)

-- a mean is at most what each of its items is
pub mean-most : (num den : ℕ) (items : List (ℕ × Fraction)) → AllByRecursion (λ item. IsAtMost item.1 num den) items
    → IsAtMost (mean items) num den
unfolding weighted_sum total_weight
mean-most num den [] each = omega arith
mean-most num den (item ∷ items) each =
    most_step num den item.0 item.1.num item.1.den (total_weight items) (weighted_sum items).num
    (weighted_sum items).den
    each.0 (mean-most num den items each.1)
