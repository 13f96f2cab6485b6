use Rattle.std.specs.Prelude.{◌≡◌, ℕ, zero, suc, ◌*◌, ◌/◌, ◌%◌}
use Rattle.std.specs.Int.{◌∣◌}

-- no number but 1 divides both
abbrev pub IsCoprime : ℕ → ℕ → Type 0
IsCoprime a b = (d : ℕ) → d ∣ a → d ∣ b → d ≡ 1

-- m is the least common multiple: both numbers divide it, and it divides each number that both divide
abbrev pub IsLcm : ℕ → ℕ → ℕ → Type 0
IsLcm a b m = (a ∣ m) × (b ∣ m) × ((n : ℕ) → a ∣ n → b ∣ n → m ∣ n)

-- Euclid's steps, at most so many
unfoldable pub gcd_within : ℕ → ℕ → ℕ → ℕ
gcd_within zero a b = a
gcd_within (suc steps) a zero = a
gcd_within (suc steps) a (suc b) = gcd_within steps (suc b) (a % suc b)

-- the greatest common divisor: each step leaves a smaller second number, so that many are enough
unfoldable pub gcd_of : ℕ → ℕ → ℕ
gcd_of a b = gcd_within (suc b) a b

-- the least common multiple of two positive numbers
unfoldable pub lcm_of : ℕ → ℕ → ℕ
lcm_of a b = a * b / gcd_of a b
