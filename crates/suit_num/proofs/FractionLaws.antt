-- Fractions compared by products: a / b is at most c / d where a * d is at most c * b.
use Rattle.std.proofs.Common.{◌≡◌, ℕ, ◌*◌, sym, ap, ◌∙◌, arith, subst}
use Rattle.std.specs.Prelude.{ℤ, pos, negsuc, ◌*ℤ◌, ◌≤ℤ◌, ◌<ℤ◌, unsigned_abs}
use Rattle.std.specs.Int.{◌∣◌}
use Rattle.std.proofs.lemmas.Int.{ints, unsigned_abs-mul}
use Rattle.std.proofs.lemmas.Nat.Gcd.{dvd_antisymm}
use Rattle.std.proofs.Math.IntN.{*ℤ_comm}
use Rattle.std.proofs.Math.Nat.{dvd-mul_left}
use Rattle.suit_num.specs.Divisors.{IsCoprime}
use Rattle.suit_num.proofs.DivisorLaws.{dvd_of_coprime, coprime_swap}
use Rattle.suit_num.proofs.IntegerLaws.{mul_assoc, mul_right_comm, le-mul_right, lt-mul_right, le_from_mul, lt_from_mul}
use Rattle.suit_num.proofs.IntegerLaws.{same_from_mul}

below : (a b : ℤ) → a <ℤ b → a ≤ℤ b
below a b h = omega (arith, ints)

pub fraction_le_trans : (a b c d e f : ℤ) → pos 0 <ℤ b → pos 0 <ℤ d → pos 0 <ℤ f → (a *ℤ d) ≤ℤ (c *ℤ b)
    → (c *ℤ f) ≤ℤ (e *ℤ d) → (a *ℤ f) ≤ℤ (e *ℤ b)
fraction_le_trans a b c d e f some_b some_d some_f p q =
    let first : (a *ℤ d *ℤ f) ≤ℤ (c *ℤ b *ℤ f) = le-mul_right _ _ f p (below (pos 0) f some_f) in
    let second : (c *ℤ f *ℤ b) ≤ℤ (e *ℤ d *ℤ b) = le-mul_right _ _ b q (below (pos 0) b some_b) in
    let turned_a = mul_right_comm a d f in
    let turned_c = mul_right_comm c b f in
    let turned_e = mul_right_comm e d b in
    le_from_mul (a *ℤ f) (e *ℤ b) d (omega (arith, ints)) some_d

pub fraction_lt_trans : (a b c d e f : ℤ) → pos 0 <ℤ b → pos 0 <ℤ d → pos 0 <ℤ f → (a *ℤ d) <ℤ (c *ℤ b)
    → (c *ℤ f) ≤ℤ (e *ℤ d) → (a *ℤ f) <ℤ (e *ℤ b)
fraction_lt_trans a b c d e f some_b some_d some_f p q =
    let first : (a *ℤ d *ℤ f) <ℤ (c *ℤ b *ℤ f) = lt-mul_right _ _ f p some_f in
    let second : (c *ℤ f *ℤ b) ≤ℤ (e *ℤ d *ℤ b) = le-mul_right _ _ b q (below (pos 0) b some_b) in
    let turned_a = mul_right_comm a d f in
    let turned_c = mul_right_comm c b f in
    let turned_e = mul_right_comm e d b in
    lt_from_mul (a *ℤ f) (e *ℤ b) d (omega (arith, ints)) (below (pos 0) d some_d)

pub fraction_same_trans : (a b c d e f : ℤ) → pos 0 <ℤ d → a *ℤ d ≡ c *ℤ b → c *ℤ f ≡ e *ℤ d → a *ℤ f ≡ e *ℤ b
fraction_same_trans a b c d e f some_d p q =
    same_from_mul (a *ℤ f) (e *ℤ b) d
    (mul_right_comm a f d ∙ ap (λ (z : ℤ). z *ℤ f) p ∙ mul_right_comm c b f ∙ ap (λ (z : ℤ). z *ℤ b) q
    ∙ mul_right_comm e d b) some_d

same_positive : (a b : ℤ) → pos 0 <ℤ a → pos 0 <ℤ b → unsigned_abs a ≡ unsigned_abs b → a ≡ b
same_positive (pos m) (pos n) p q e = ap pos e
same_positive (pos m) (negsuc n) p q e = absurd (omega (arith, ints))
same_positive (negsuc m) b p q e = absurd (omega (arith, ints))

divides_other : (a b c d : ℤ) → IsCoprime (unsigned_abs a) (unsigned_abs b) → a *ℤ d ≡ c *ℤ b
    → unsigned_abs b ∣ unsigned_abs d
divides_other a b c d h e =
    let sizes : unsigned_abs c * unsigned_abs b ≡ unsigned_abs a * unsigned_abs d = sym (unsigned_abs-mul c b)
    ∙ ap unsigned_abs (sym e) ∙ unsigned_abs-mul a d in
    dvd_of_coprime _ _ _ (coprime_swap _ _ h)
    (subst (λ (n : ℕ). unsigned_abs b ∣ n) sizes (dvd-mul_left (unsigned_abs b) (unsigned_abs c)))

-- equal fractions in lowest terms have equal parts
pub same_reduced : (a b c d : ℤ) → pos 0 <ℤ b → pos 0 <ℤ d → IsCoprime (unsigned_abs a) (unsigned_abs b)
    → IsCoprime (unsigned_abs c) (unsigned_abs d) → a *ℤ d ≡ c *ℤ b → (a ≡ c) × (b ≡ d)
same_reduced a b c d some_b some_d p q e =
    let same : b ≡ d = same_positive b d some_b some_d
    (dvd_antisymm (divides_other a b c d p e) (divides_other c d a b q (sym e))) in
    (same_from_mul a c d (e ∙ ap (λ (z : ℤ). c *ℤ z) same) some_d, same)

-- dividing both parts by a common divisor leaves the value
pub quotients_same : (a b g q r : ℤ) → q *ℤ g ≡ a → r *ℤ g ≡ b → q *ℤ b ≡ a *ℤ r
quotients_same a b g q r e f =
    ap (λ (z : ℤ). q *ℤ z) (sym f) ∙ ap (λ (z : ℤ). q *ℤ z) (*ℤ_comm r g) ∙ sym (mul_assoc q g r)
    ∙ ap (λ (z : ℤ). z *ℤ r) e
