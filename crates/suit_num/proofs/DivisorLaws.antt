-- Laws of divisors, of the greatest common divisor and of the least common multiple.
use Rattle.std.proofs.Common.{◌≡◌, ℕ, zero, suc, ◌+◌, ◌*◌, ◌/◌, ◌%◌, ◌<◌, sym, ap, ◌∙◌, subst, arith}
use Rattle.std.specs.Prelude.{◌↔◌}
use Rattle.std.specs.Int.{IsGcd, ◌∣◌}
use Rattle.std.proofs.lemmas.Nat.{mod-mul-add}
use Rattle.std.proofs.lemmas.Nat.Gcd.{dvd_refl, dvd_trans, dvd_antisymm, IsGcd-from_zero, IsGcd-from_mod}
use Rattle.std.proofs.lemmas.Nat.Gcd.{same_from_IsGcd}
use Rattle.std.proofs.Math.Nat.{mul_comm, mul-one, one-mul, div-mul_cancel, mul-dvd-mul_right, dvd_of_mul-dvd-mul_right}
use Rattle.std.proofs.Math.Nat.{dvd-mul_right, dvd-mul_left, dvd-mul_right_of_dvd, eq-one_of_dvd-one, one-dvd}
use Rattle.std.proofs.Math.Nat.{mul-lt-mul_of_pos_right, div-add-mod', mul-zero, mul-div_cancel, pos_of_dvd_of_pos}
use Rattle.suit_num.specs.Divisors.{IsCoprime, IsLcm, gcd_within, gcd_of, lcm_of}

mod-scaled : (a b k : ℕ) → 0 < b → (a * k) % (b * k) ≡ (a % b) * k
mod-scaled a b zero h = simp mul-zero
mod-scaled a b (suc k) h =
    let low : a % b < b = omega arith in
    let less : (a % b) * suc k < b * suc k = mul-lt-mul_of_pos_right low (omega arith) in
    let whole : (a / b) * (b * suc k) + (a % b) * suc k ≡ a * suc k =
    omega (arith, ap (λ (n : ℕ). n * suc k) (div-add-mod' a b)) in
    ap (λ (n : ℕ). n % (b * suc k)) (sym whole) ∙ mod-mul-add (a / b) (b * suc k) ((a % b) * suc k) less

-- Euclid's steps end within as many as the second number says, and scale with both numbers
within_scaled : (steps a b k : ℕ) → b < steps → IsGcd (a * k) (b * k) (gcd_within steps a b * k)
unfolding gcd_within
within_scaled zero a b k h = absurd (omega arith)
within_scaled (suc steps) a zero k h = IsGcd-from_zero (a * k) (0 * k) (omega arith)
within_scaled (suc steps) a (suc b) k h =
    let low : a % suc b < suc b = omega arith in
    let e : (a * k) % (suc b * k) ≡ (a % suc b) * k = mod-scaled a (suc b) k (omega arith) in
    IsGcd-from_mod (a * k) (suc b * k) _ (rw e (within_scaled steps (suc b) (a % suc b) k (omega arith)))

scaled : (a b k : ℕ) → IsGcd (a * k) (b * k) (gcd_of a b * k)
unfolding gcd_of
scaled a b k = within_scaled (suc b) a b k (omega arith)

-- the greatest common divisor is one
pub IsGcd-gcd_of : (a b : ℕ) → IsGcd a b (gcd_of a b)
IsGcd-gcd_of a b = simp mul-one at (scaled a b 1)

-- to multiply both numbers is to multiply their greatest common divisor
pub IsGcd-scaled : (a b g k : ℕ) → IsGcd a b g → IsGcd (a * k) (b * k) (g * k)
IsGcd-scaled a b g k h = rw (same_from_IsGcd a b g (gcd_of a b) h (IsGcd-gcd_of a b)) (scaled a b k)

pub IsGcd_from_coprime : (a b : ℕ) → IsCoprime a b → IsGcd a b 1
IsGcd_from_coprime a b h = (one-dvd a, one-dvd b, λ d p q. rw (h d p q) (dvd_refl 1))

pub coprime_from_IsGcd : (a b : ℕ) → IsGcd a b 1 → IsCoprime a b
coprime_from_IsGcd a b h = λ d p q. eq-one_of_dvd-one (h.2 d p q)

pub coprime_swap : (a b : ℕ) → IsCoprime a b → IsCoprime b a
coprime_swap a b h = λ d p q. h d q p

-- Euclid's lemma: a divisor of a product that shares nothing with one factor divides the other
pub dvd_of_coprime : (d a b : ℕ) → IsCoprime d a → d ∣ a * b → d ∣ b
dvd_of_coprime d a b h p =
    let g : IsGcd (d * b) (a * b) (1 * b) = IsGcd-scaled d a 1 b (IsGcd_from_coprime d a h) in
    simp one-mul at (g.2 d (dvd-mul_right d b) p)

-- a factor that shares nothing with the other number changes nothing
pub IsGcd-times_coprime : (x y g k : ℕ) → IsCoprime k y → IsGcd x y g → IsGcd (x * k) y g
IsGcd-times_coprime x y g k h is = (
  dvd-mul_right_of_dvd g is.0 k,
  is.1,
  λ d p q.
      is.2 d (dvd_of_coprime d k x (λ e r s. h e s (dvd_trans e r q)) (rw (mul_comm k x) p)) q,
)

-- the quotients by the greatest common divisor share no divisor
pub coprime_quotients : (a b g q r : ℕ) → 0 < g → IsGcd a b g → q * g ≡ a → r * g ≡ b → IsCoprime q r
coprime_quotients a b g q r some is e f = λ d p s.
    let in_a : d * g ∣ a = subst (λ (n : ℕ). d * g ∣ n) e (mul-dvd-mul_right d p g) in
    let in_b : d * g ∣ b = subst (λ (n : ℕ). d * g ∣ n) f (mul-dvd-mul_right d s g) in
    let in_g : d * g ∣ 1 * g = rw (one-mul g) (is.2 (d * g) in_a in_b) in
    eq-one_of_dvd-one (dvd_of_mul-dvd-mul_right d some in_g)

-- one number's quotient times the other number is the least common multiple
pub IsLcm-from_quotient : (a b g q : ℕ) → 0 < g → IsGcd a b g → q * g ≡ a → IsLcm a b (q * b)
IsLcm-from_quotient a b g q some is e =
    let r : ℕ = b / g in
    let f : r * g ≡ b = div-mul_cancel g is.1 in
    let apart : IsCoprime q r = coprime_quotients a b g q r some is e f in
    let turned : a * r ≡ q * b = omega (arith, ap (λ (n : ℕ). n * r) e, ap (λ (n : ℕ). q * n) f) in
    let in_a : a ∣ q * b = subst (λ (n : ℕ). a ∣ n) turned (dvd-mul_right a r) in (
      in_a,
      dvd-mul_left b q,
      λ n p s.
          let m : ℕ = n / b in
          let whole : m * b ≡ n = div-mul_cancel b s in
          let parts : r * m * g ≡ n = omega (arith, ap (λ (k : ℕ). m * k) f, whole) in
          let in_parts : q * g ∣ r * m * g = rw (e, parts) p in
          let in_m : q ∣ m = dvd_of_coprime q r m apart (dvd_of_mul-dvd-mul_right q some in_parts) in
          subst (λ (k : ℕ). q * b ∣ k) whole (mul-dvd-mul_right q in_m b),
    )

pub lcm_of-is : (a b g q : ℕ) → 0 < g → IsGcd a b g → q * g ≡ a → lcm_of a b ≡ q * b
unfolding lcm_of
lcm_of-is a b g q some is e =
    let same : gcd_of a b ≡ g = same_from_IsGcd a b _ g (IsGcd-gcd_of a b) is in
    let product : a * b ≡ q * b * g = omega (arith, ap (λ (n : ℕ). n * b) e) in
    rw (same, product) (mul-div_cancel (q * b) some)

pub IsLcm-lcm_of : (a b : ℕ) → 0 < a → IsLcm a b (lcm_of a b)
IsLcm-lcm_of a b some =
    let is : IsGcd a b (gcd_of a b) = IsGcd-gcd_of a b in
    let more : 0 < gcd_of a b = pos_of_dvd_of_pos is.0 some in
    let e : a / gcd_of a b * gcd_of a b ≡ a = div-mul_cancel (gcd_of a b) is.0 in
    rw (lcm_of-is a b _ _ more is e) (IsLcm-from_quotient a b _ _ more is e)

-- there is one least common multiple
pub same_from_IsLcm : (a b m n : ℕ) → IsLcm a b m → IsLcm a b n → m ≡ n
same_from_IsLcm a b m n p q = dvd_antisymm (p.2 n q.0 q.1) (q.2 m p.0 p.1)

pub IsGcd-iff : (a b g : ℕ) → IsGcd a b g ↔ (g ≡ gcd_of a b)
IsGcd-iff a b g = (λ h. same_from_IsGcd a b g (gcd_of a b) h (IsGcd-gcd_of a b), λ e. rw e (IsGcd-gcd_of a b))

pub IsLcm-iff : (a b m : ℕ) → 0 < a → IsLcm a b m ↔ (m ≡ lcm_of a b)
IsLcm-iff a b m some = (
  λ h. same_from_IsLcm a b m (lcm_of a b) h (IsLcm-lcm_of a b some),
  λ e. rw e (IsLcm-lcm_of a b some),
)
