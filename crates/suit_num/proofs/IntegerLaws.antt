-- Laws of whole numbers with a sign, which std lacks. That the product is commutative is `*ℤ_comm` of std's
-- `Math.IntN`.
use Rattle.std.proofs.Common.{◌≡◌, ℕ, true, false, ◌+◌, ◌*◌, ◌<◌, ◌≤◌, sym, ap, ◌∙◌, arith, subst}
use Rattle.std.specs.Prelude.{ℤ, pos, negsuc, ◌+ℤ◌, ◌-ℤ◌, ◌*ℤ◌, neg_ℤ, ◌≤ℤ◌, ◌<ℤ◌, unsigned_abs, int_div, int_rem}
use Rattle.std.specs.Prelude.{int_lt, int_le}
use Rattle.std.specs.Int.{◌∣◌}
use Rattle.std.proofs.lemmas.Int.{ints, quot-rem, unsigned_abs-mul}
use Rattle.std.proofs.lemmas.Nat.Gcd.{mod-eq-zero_of_dvd}
use Rattle.std.proofs.Math.IntN.{*ℤ_comm, +ℤ_idr, zero-*ℤ}
use Rattle.std.proofs.Math.Nat.{mul-le-mul_right, mul-lt-mul_of_pos_right, le_of_mul-le-mul_right}
use Rattle.std.proofs.Math.Nat.{lt_of_mul-lt-mul_right, eq_of_mul-eq-mul_right, dvd-mul_left}
use borrow.Author.Differences.{up, down, same_in, sum_is_lem, product_is, neg_is, le_out, lt_out}

-- ---- sums and products

up-mul : (a b : ℤ) → up (a *ℤ b) ≡ up a * up b + down a * down b
up-mul a b = (product_is a b).0

down-mul : (a b : ℤ) → down (a *ℤ b) ≡ up a * down b + down a * up b
down-mul a b = (product_is a b).1

pub mul_assoc : (a b c : ℤ) → (a *ℤ b) *ℤ c ≡ a *ℤ (b *ℤ c)
mul_assoc a b c = same_in _ _ (simp (up-mul, down-mul) (omega arith))

pub mul_left_comm : (a b c : ℤ) → a *ℤ (b *ℤ c) ≡ b *ℤ (a *ℤ c)
mul_left_comm a b c = same_in _ _ (simp (up-mul, down-mul) (omega arith))

pub mul_right_comm : (a b c : ℤ) → (a *ℤ b) *ℤ c ≡ (a *ℤ c) *ℤ b
mul_right_comm a b c = same_in _ _ (simp (up-mul, down-mul) (omega arith))

pub mul-one : (a : ℤ) → a *ℤ pos 1 ≡ a
mul-one a = same_in _ _ (simp (up-mul, down-mul) (omega arith))

pub mul-neg_left : (a b : ℤ) → neg_ℤ a *ℤ b ≡ neg_ℤ (a *ℤ b)
mul-neg_left a b =
    same_in _ _ (rw ((neg_is (a *ℤ b)).0, (neg_is (a *ℤ b)).1)
    (simp (up-mul, down-mul) (rw ((neg_is a).0, (neg_is a).1) (omega arith))))

pub mul-add_left : (a b c : ℤ) → a *ℤ (b +ℤ c) ≡ a *ℤ b +ℤ a *ℤ c
mul-add_left a b c =
    omega (arith, ints, ap (λ (n : ℕ). up a * n) (sum_is_lem b c), ap (λ (n : ℕ). down a * n) (sum_is_lem b c))

pub mul-add_right : (a b c : ℤ) → (a +ℤ b) *ℤ c ≡ a *ℤ c +ℤ b *ℤ c
mul-add_right a b c =
    omega (arith, ints, ap (λ (n : ℕ). n * up c) (sum_is_lem a b), ap (λ (n : ℕ). n * down c) (sum_is_lem a b))

pub mul-neg_right : (a b : ℤ) → a *ℤ neg_ℤ b ≡ neg_ℤ (a *ℤ b)
mul-neg_right a b = *ℤ_comm a (neg_ℤ b) ∙ mul-neg_left b a ∙ ap neg_ℤ (*ℤ_comm b a)

pub mul-sub_left : (a b c : ℤ) → a *ℤ (b -ℤ c) ≡ a *ℤ b -ℤ a *ℤ c
mul-sub_left a b c = mul-add_left a b (neg_ℤ c) ∙ ap (λ (z : ℤ). a *ℤ b +ℤ z) (mul-neg_right a c)

pub mul-sub_right : (a b c : ℤ) → (a -ℤ b) *ℤ c ≡ a *ℤ c -ℤ b *ℤ c
mul-sub_right a b c = mul-add_right a (neg_ℤ b) c ∙ ap (λ (z : ℤ). a *ℤ c +ℤ z) (mul-neg_left b c)

-- ---- tests of the order

-- a number that is told to be less is less
pub int_lt-true : (a b : ℤ) → int_lt a b ≡ true → a <ℤ b
int_lt-true a b told = grind (arith, ints)

-- and one that is told not to be less is not
pub int_lt-false : (a b : ℤ) → int_lt a b ≡ false → b ≤ℤ a
int_lt-false a b told = grind (arith, ints)

-- a number that is told to be at most another is
pub int_le-true : (a b : ℤ) → int_le a b ≡ true → a ≤ℤ b
int_le-true a b told = grind (arith, ints)

-- ---- products and the order

pub le-mul_right : (a b c : ℤ) → a ≤ℤ b → pos 0 ≤ℤ c → (a *ℤ c) ≤ℤ (b *ℤ c)
le-mul_right a b (pos n) h some = omega (arith, ints, mul-le-mul_right n (le_out a b h))
le-mul_right a b (negsuc n) h some = absurd (omega (arith, ints))

pub lt-mul_right : (a b c : ℤ) → a <ℤ b → pos 0 <ℤ c → (a *ℤ c) <ℤ (b *ℤ c)
lt-mul_right a b (pos n) h some =
    let more : 0 < n = omega (arith, ints) in
    omega (arith, ints, mul-lt-mul_of_pos_right (lt_out a b h) more)
lt-mul_right a b (negsuc n) h some = absurd (omega (arith, ints))

pub le_from_mul : (a b c : ℤ) → (a *ℤ c) ≤ℤ (b *ℤ c) → pos 0 <ℤ c → a ≤ℤ b
le_from_mul a b (pos n) h some =
    let more : 0 < n = omega (arith, ints) in
    let both : (up a + down b) * n ≤ (up b + down a) * n = omega (arith, ints) in
    omega (arith, ints, le_of_mul-le-mul_right both more)
le_from_mul a b (negsuc n) h some = absurd (omega (arith, ints))

pub lt_from_mul : (a b c : ℤ) → (a *ℤ c) <ℤ (b *ℤ c) → pos 0 ≤ℤ c → a <ℤ b
lt_from_mul a b (pos n) h some =
    let both : (up a + down b) * n < (up b + down a) * n = omega (arith, ints) in
    omega (arith, ints, lt_of_mul-lt-mul_right n both)
lt_from_mul a b (negsuc n) h some = absurd (omega (arith, ints))

pub same_from_mul : (a b c : ℤ) → a *ℤ c ≡ b *ℤ c → pos 0 <ℤ c → a ≡ b
same_from_mul a b (pos n) h some =
    let more : 0 < n = omega (arith, ints) in
    let both : (up a + down b) * n ≡ (up b + down a) * n = omega (arith, ints) in
    same_in a b (eq_of_mul-eq-mul_right n more _ _ both)
same_from_mul a b (negsuc n) h some = absurd (omega (arith, ints))

pub mul_positive : (a b : ℤ) → pos 0 <ℤ a → pos 0 <ℤ b → pos 0 <ℤ (a *ℤ b)
mul_positive a b p q = subst (λ (z : ℤ). z <ℤ (a *ℤ b)) (zero-*ℤ b) (lt-mul_right (pos 0) a b p q)

pub mul_not_negative : (a b : ℤ) → pos 0 ≤ℤ a → pos 0 ≤ℤ b → pos 0 ≤ℤ (a *ℤ b)
mul_not_negative a b p q = subst (λ (z : ℤ). z ≤ℤ (a *ℤ b)) (zero-*ℤ b) (le-mul_right (pos 0) a b p q)

pub mul_negative : (a b : ℤ) → a <ℤ pos 0 → pos 0 <ℤ b → (a *ℤ b) <ℤ pos 0
mul_negative a b p q = subst (λ (z : ℤ). (a *ℤ b) <ℤ z) (zero-*ℤ b) (lt-mul_right a (pos 0) b p q)

pub mul_not_positive : (a b : ℤ) → a ≤ℤ pos 0 → pos 0 ≤ℤ b → (a *ℤ b) ≤ℤ pos 0
mul_not_positive a b p q = subst (λ (z : ℤ). (a *ℤ b) ≤ℤ z) (zero-*ℤ b) (le-mul_right a (pos 0) b p q)

pub positive_from_mul : (a b : ℤ) → pos 0 <ℤ (a *ℤ b) → pos 0 <ℤ b → pos 0 <ℤ a
positive_from_mul a b p q =
    let low : pos 0 ≤ℤ b = omega (arith, ints) in
    lt_from_mul (pos 0) a b (subst (λ (z : ℤ). z <ℤ (a *ℤ b)) (sym (zero-*ℤ b)) p) low

-- ---- divisors

rem-divides : (a d : ℤ) → unsigned_abs d ∣ unsigned_abs a → int_rem a d ≡ pos 0
rem-divides (pos n) d h = ap pos (mod-eq-zero_of_dvd _ h)
rem-divides (negsuc n) d h = ap (λ (m : ℕ). neg_ℤ (pos m)) (mod-eq-zero_of_dvd _ h)

-- a division by a divisor is exact
pub div-mul : (a d : ℤ) → unsigned_abs d ∣ unsigned_abs a → int_div a d *ℤ d ≡ a
div-mul a d h =
    sym (+ℤ_idr (int_div a d *ℤ d)) ∙ ap (λ (z : ℤ). int_div a d *ℤ d +ℤ z) (sym (rem-divides a d h)) ∙ quot-rem a d

-- the exact quotient is the only number that multiplies back
pub div_is : (a d q : ℤ) → pos 0 <ℤ d → q *ℤ d ≡ a → int_div a d ≡ q
div_is a d q some e =
    same_from_mul (int_div a d) q d
    (div-mul a d (subst (λ (z : ℤ). unsigned_abs d ∣ unsigned_abs z) e (divides-mul d q)) ∙ sym e) some
  where
    divides-mul : (d q : ℤ) → unsigned_abs d ∣ unsigned_abs (q *ℤ d)
    divides-mul d q = rw (unsigned_abs-mul q d) (dvd-mul_left (unsigned_abs d) (unsigned_abs q))

-- a product is divided by dividing a factor
pub mul-div : (a b d : ℤ) → pos 0 <ℤ d → unsigned_abs d ∣ unsigned_abs a → int_div (a *ℤ b) d ≡ int_div a d *ℤ b
mul-div a b d some h =
    div_is (a *ℤ b) d (int_div a d *ℤ b) some
    (mul_right_comm (int_div a d) b d ∙ ap (λ (z : ℤ). z *ℤ b) (div-mul a d h))

-- a divisor of two numbers divides each difference of their multiples
pub divides_combination : (d a b x y : ℤ) → unsigned_abs d ∣ unsigned_abs a → unsigned_abs d ∣ unsigned_abs b
    → unsigned_abs d ∣ unsigned_abs (a *ℤ x -ℤ b *ℤ y)
divides_combination d a b x y p q =
    let m : ℤ = int_div a d *ℤ x -ℤ int_div b d *ℤ y in
    let e : m *ℤ d ≡ a *ℤ x -ℤ b *ℤ y =
    mul-sub_right (int_div a d *ℤ x) (int_div b d *ℤ y) d
    ∙ ap (λ (z : ℤ). z -ℤ int_div b d *ℤ y *ℤ d)
    (mul_right_comm (int_div a d) x d ∙ ap (λ (z : ℤ). z *ℤ x) (div-mul a d p))
    ∙ ap (λ (z : ℤ). a *ℤ x -ℤ z) (mul_right_comm (int_div b d) y d ∙ ap (λ (z : ℤ). z *ℤ y) (div-mul b d q)) in
    subst (λ (z : ℤ). unsigned_abs d ∣ unsigned_abs z) e
    (rw (unsigned_abs-mul m d) (dvd-mul_left (unsigned_abs d) (unsigned_abs m)))
