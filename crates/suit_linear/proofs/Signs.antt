-- Sums and products that are 0, and numbers that are at least 0 (`sum_not_negative`).
use Rattle.std.proofs.Common.{◌≡◌, ap, ◌∙◌, arith}
use Rattle.std.specs.Prelude.{ℤ, pos, ◌+ℤ◌, ◌-ℤ◌, ◌*ℤ◌, ◌≤ℤ◌, ◌<ℤ◌}
use Rattle.std.proofs.lemmas.Int.{ints}
use Rattle.std.proofs.Math.IntN.{zero-*ℤ}

nothing_times : (a : ℤ) → a *ℤ pos 0 ≡ pos 0
nothing_times a = omega (arith, ints)

pub times_zero : (a b : ℤ) → b ≡ pos 0 → a *ℤ b ≡ pos 0
times_zero a b h = ap (λ (z : ℤ). a *ℤ z) h ∙ nothing_times a

pub zero_times : (a b : ℤ) → a ≡ pos 0 → a *ℤ b ≡ pos 0
zero_times a b h = ap (λ (z : ℤ). z *ℤ b) h ∙ zero-*ℤ b

-- multiples of 0 differ by 0
pub nothing_combined : (own other : ℤ) → own *ℤ pos 0 -ℤ other *ℤ pos 0 ≡ pos 0
nothing_combined own other = omega (arith, ints)

-- a multiple of 0 takes nothing away
pub nothing_taken : (a other : ℤ) → a -ℤ other *ℤ pos 0 ≡ a
nothing_taken a other = omega (arith, ints)

pub positive_low : (a : ℤ) → pos 0 <ℤ a → pos 0 ≤ℤ a
positive_low a h = omega (arith, ints)

pub zero_low : (a : ℤ) → a ≡ pos 0 → pos 0 ≤ℤ a
zero_low a h = omega (arith, ints)

pub sum_not_negative : (a b : ℤ) → pos 0 ≤ℤ a → pos 0 ≤ℤ b → pos 0 ≤ℤ (a +ℤ b)
sum_not_negative a b h k = omega (arith, ints)
