use Rattle.std.specs.Prelude.{◌≡◌, ℕ, suc, ◌+◌, ◌*◌, ◌<◌, ◌↔◌, ℤ, pos, ◌+ℤ◌, ◌-ℤ◌, ◌*ℤ◌, ◌<ℤ◌, ◌≤ℤ◌, unsigned_abs}
use Rattle.std.specs.Prelude.{int_div}
use Rattle.std.specs.Int.{IsGcd, ◌∣◌}
use Rattle.suit_num.specs.Binomials.{binomial}
use Rattle.suit_num.specs.Divisors.{IsCoprime, IsLcm, gcd_of, lcm_of}

-- each number of Pascal's triangle is the sum of the two above it
abbrev pub PascalLaw : Type 0
PascalLaw = (n k : ℕ) → binomial (suc n) (suc k) ≡ binomial n k + binomial n (suc k)

-- nothing is chosen in one way
abbrev pub NoneChosenLaw : Type 0
NoneChosenLaw = (n : ℕ) → binomial n 0 ≡ 1

-- all are chosen in one way
abbrev pub AllChosenLaw : Type 0
AllChosenLaw = (n : ℕ) → binomial n n ≡ 1

-- more than there are cannot be chosen
abbrev pub TooManyChosenLaw : Type 0
TooManyChosenLaw = (n k : ℕ) → n < k → binomial n k ≡ 0

-- to choose some is to choose the rest
abbrev pub RestChosenLaw : Type 0
RestChosenLaw = (m k : ℕ) → binomial (m + k) k ≡ binomial (m + k) m

-- one of the chosen is marked: choose and then mark, or mark and then choose the others
abbrev pub AbsorptionLaw : Type 0
AbsorptionLaw = (n k : ℕ) → suc k * binomial (suc n) (suc k) ≡ suc n * binomial n k

-- Euclid's steps give the one greatest common divisor
abbrev pub GcdLaw : Type 0
GcdLaw = (a b g : ℕ) → IsGcd a b g ↔ (g ≡ gcd_of a b)

-- the product over the greatest common divisor is the one least common multiple
abbrev pub LcmLaw : Type 0
LcmLaw = (a b m : ℕ) → 0 < a → IsLcm a b m ↔ (m ≡ lcm_of a b)

-- two fractions a / b and c / d in lowest terms are equal only where their parts are
abbrev pub LowestTermsLaw : Type 0
LowestTermsLaw =
    (a b c d : ℤ) → pos 0 <ℤ b → pos 0 <ℤ d
    → IsCoprime (unsigned_abs a) (unsigned_abs b) → IsCoprime (unsigned_abs c) (unsigned_abs d)
    → a *ℤ d ≡ c *ℤ b → (a ≡ c) × (b ≡ d)

-- where a / b is at most c / d, and that at most e / f, a / b is at most e / f
abbrev pub FractionOrderLaw : Type 0
FractionOrderLaw =
    (a b c d e f : ℤ) → pos 0 <ℤ b → pos 0 <ℤ d → pos 0 <ℤ f
    → (a *ℤ d) ≤ℤ (c *ℤ b) → (c *ℤ f) ≤ℤ (e *ℤ d) → (a *ℤ f) ≤ℤ (e *ℤ b)

-- products of integers may be regrouped, and a product of a sum or a difference is taken term by term
abbrev pub IntegerProductsLaw : Type 0
IntegerProductsLaw =
    (a b c : ℤ) → ((a *ℤ b) *ℤ c ≡ a *ℤ (b *ℤ c)) × (a *ℤ (b +ℤ c) ≡ a *ℤ b +ℤ a *ℤ c)
    × (a *ℤ (b -ℤ c) ≡ a *ℤ b -ℤ a *ℤ c)

-- a quotient by a divisor is exact
abbrev pub ExactDivisionLaw : Type 0
ExactDivisionLaw = (a d : ℤ) → unsigned_abs d ∣ unsigned_abs a → int_div a d *ℤ d ≡ a

-- a divisor of two numbers divides each combination of them
abbrev pub CombinationLaw : Type 0
CombinationLaw =
    (d a b x y : ℤ) → unsigned_abs d ∣ unsigned_abs a → unsigned_abs d ∣ unsigned_abs b
    → unsigned_abs d ∣ unsigned_abs (a *ℤ x -ℤ b *ℤ y)
