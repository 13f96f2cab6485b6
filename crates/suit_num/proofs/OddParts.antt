-- A number as an odd part times a power of 2, and the greatest common divisor by odd parts.
use Rattle.std.proofs.Common.{◌≡◌, ◌≢◌, ℕ, zero, suc, ◌+◌, ◌-◌, ◌*◌, ◌/◌, ◌%◌, ◌^◌, ◌<◌, ◌≤◌, min, max, refl, sym, ap}
use Rattle.std.proofs.Common.{◌∙◌, subst, arith, inl, inr}
use Rattle.std.specs.Int.{IsGcd, ◌∣◌, Width, bit_at, trailing_zeros}
use mir.Val.{bits}
use Rattle.std.proofs.lemmas.Bool.{cases_lt}
use Rattle.std.proofs.lemmas.Nat.{mod-pow-add, shr_split, pow-add}
use Rattle.std.proofs.lemmas.Nat.Bits.{bit_at-trailing_zeros}
use Rattle.std.proofs.lemmas.Nat.Gcd.{dvd_refl, dvd_trans, le_of_dvd, mod-eq-zero_of_dvd, IsGcd-swap, IsGcd-from_sub}
use Rattle.std.proofs.lemmas.Nat.Gcd.{IsGcd-from_mod, IsGcd-from_zero}
use Rattle.std.proofs.Math.Nat.{mul_assoc, mod-one, eq-one_of_dvd-one, mod-eq_of_lt}
use Rattle.suit_num.specs.Divisors.{IsCoprime}
use Rattle.suit_num.proofs.DivisorLaws.{IsGcd-scaled, IsGcd-times_coprime, dvd_of_coprime}

low_zero : (n t : ℕ) → ((i : ℕ) → i < t → bit_at n i ≡ 0) → n % 2 ^ t ≡ 0
low_zero n zero h = mod-one n
low_zero n (suc t) h =
    let split : n % 2 ^ (1 + t) ≡ (n / 2 ^ t % 2 ^ 1) * 2 ^ t + n % 2 ^ t = mod-pow-add n 1 t in
    let top : n / 2 ^ t % 2 ≡ 0 = h t (omega arith) in
    let low : n % 2 ^ t ≡ 0 = low_zero n t (λ i p. h i (omega arith)) in
    let e : 1 + t ≡ suc t = omega arith in
    rw (← e) (split ∙ rw (top, low) (omega arith))

-- what is left after the shift by the trailing zeros is odd, and shifting back gives the number
pub odd_part : (w : Width) (n : ℕ) → 0 < n → n < 2 ^ bits w → (trailing_zeros w n < bits w)
    × (n / 2 ^ trailing_zeros w n % 2 ≡ 1) × (n / 2 ^ trailing_zeros w n * 2 ^ trailing_zeros w n ≡ n)
odd_part w n some fits =
    let bits_are = bit_at-trailing_zeros w n some fits in
    let low : n % 2 ^ trailing_zeros w n ≡ 0 = low_zero n (trailing_zeros w n) bits_are.2 in
    (bits_are.0, bits_are.1, omega (arith, shr_split n (trailing_zeros w n), low))

-- a divisor of an odd number shares no divisor with 2
two_coprime : (y : ℕ) → y % 2 ≡ 1 → IsCoprime 2 y
two_coprime y odd zero p q = absurd (omega (arith, mod-eq-zero_of_dvd 0 q, mod-eq-zero_of_dvd 0 p))
two_coprime y odd (suc zero) p q = refl
two_coprime y odd (suc (suc zero)) p q = absurd (omega (arith, mod-eq-zero_of_dvd 2 q))
two_coprime y odd (suc (suc (suc d))) p q = absurd (omega (arith, le_of_dvd (omega arith) p))

pub power_coprime : (t y : ℕ) → y % 2 ≡ 1 → IsCoprime (2 ^ t) y
power_coprime zero y odd = λ d p q. eq-one_of_dvd-one p
power_coprime (suc t) y odd = λ d p q.
    let both : d ∣ 2 * 2 ^ t = subst (λ (n : ℕ). d ∣ n) (omega arith) p in
    power_coprime t y odd d (dvd_of_coprime d 2 (2 ^ t) (λ e r s. two_coprime y odd e s (dvd_trans e r q)) both) q

-- two numbers as their odd parts and powers of 2: the lesser power is that of the greatest common divisor
shifted : (x y i j g : ℕ) → x % 2 ≡ 1 → i ≤ j → IsGcd x y g → IsGcd (x * 2 ^ i) (y * 2 ^ j) (g * 2 ^ i)
shifted x y i j g odd le is =
    let e : y * 2 ^ (j - i) * 2 ^ i ≡ y * 2 ^ j =
    mul_assoc y (2 ^ (j - i)) (2 ^ i) ∙ ap (λ (n : ℕ). y * n) (sym (pow-add 2 (j - i) i))
    ∙ ap (λ (n : ℕ). y * 2 ^ n) (omega arith) in
    let more : IsGcd x (y * 2 ^ (j - i)) g =
    IsGcd-swap _ _ _ (IsGcd-times_coprime y x g (2 ^ (j - i)) (power_coprime (j - i) x odd)
    (IsGcd-swap x y g is)) in
    subst (λ (n : ℕ). IsGcd (x * 2 ^ i) n (g * 2 ^ i)) e (IsGcd-scaled x (y * 2 ^ (j - i)) g (2 ^ i) more)

pub both_shifted : (x y i j g : ℕ) → x % 2 ≡ 1 → y % 2 ≡ 1 → IsGcd x y g
    → IsGcd (x * 2 ^ i) (y * 2 ^ j) (g * 2 ^ min i j)
both_shifted x y i j g odd_x odd_y is =
    elim (cases_lt i j) as (λ _. IsGcd (x * 2 ^ i) (y * 2 ^ j) (g * 2 ^ min i j)) [
      | inl h ↦ let e : min i j ≡ i = omega arith in rw e (shifted x y i j g odd_x (omega arith) is)
      | inr h ↦ let e : min i j ≡ j = omega arith in
          rw e (IsGcd-swap _ _ _ (shifted y x j i g odd_y h (IsGcd-swap x y g is)))
    ]

-- x and y are odd, and their greatest common divisor, shifted, is that of a and b
pub record Halves (a b x y twos : ℕ) : Type 0 where
  pub odd_x : x % 2 ≡ 1
  pub odd_y : y % 2 ≡ 1
  pub same : (g : ℕ) → IsGcd x y g → IsGcd a b (g * 2 ^ twos)

pub halves_first : (w : Width) (a b : ℕ) → 0 < a → a < 2 ^ bits w → 0 < b → b < 2 ^ bits w
    → Halves a b (a / 2 ^ trailing_zeros w a) (b / 2 ^ trailing_zeros w b)
    (min (trailing_zeros w a) (trailing_zeros w b))
halves_first w a b some_a fits_a some_b fits_b =
    let p = odd_part w a some_a fits_a in
    let q = odd_part w b some_b fits_b in
    record {
      odd_x = p.1;
      odd_y = q.1;
      same = λ g is. rw p.2 at (rw q.2 at
          (both_shifted (a / 2 ^ trailing_zeros w a) (b / 2 ^ trailing_zeros w b) (trailing_zeros w a)
          (trailing_zeros w b) g p.1 q.1 is));
    }

-- the difference of two odd numbers, with its powers of 2 left out, in place of the greater of them
gap_gcd : (x y g : ℕ) → IsGcd ((x - y) + (y - x)) (min x y) g → IsGcd x y g
gap_gcd x y g is =
    elim (cases_lt x y) as (λ _. IsGcd x y g) [
      | inl h ↦
          let e : (x - y) + (y - x) ≡ y - x = omega arith in
          let f : min x y ≡ x = omega arith in
          IsGcd-swap y x g (IsGcd-from_sub y x g (omega arith) (rw f at (rw e at is)))
      | inr h ↦
          let e : (x - y) + (y - x) ≡ x - y = omega arith in
          let f : min x y ≡ y = omega arith in
          IsGcd-from_sub x y g h (rw f at (rw e at is))
    ]

min_odd : (x y : ℕ) → x % 2 ≡ 1 → y % 2 ≡ 1 → min x y % 2 ≡ 1
min_odd x y p q =
    elim (cases_lt x y) as (λ _. min x y % 2 ≡ 1) [
      | inl h ↦ let f : min x y ≡ x = omega arith in rw f p
      | inr h ↦ let f : min x y ≡ y = omega arith in rw f q
    ]

pub halves_next : (w : Width) (a b x y twos gap : ℕ) → Halves a b x y twos → x ≢ y → gap ≡ (x - y) + (y - x)
    → gap < 2 ^ bits w → Halves a b (gap / 2 ^ trailing_zeros w gap) (min x y) twos
halves_next w a b x y twos gap h apart is fits =
    let p = odd_part w gap (omega arith) fits in
    let low : min x y % 2 ≡ 1 = min_odd x y h.odd_x h.odd_y in
    record {
      odd_x = p.1;
      odd_y = low;
      same = λ g d.
          let more : IsGcd (gap / 2 ^ trailing_zeros w gap * 2 ^ trailing_zeros w gap) (min x y) g =
          IsGcd-times_coprime _ _ g _ (power_coprime (trailing_zeros w gap) (min x y) low) d in
          h.same g (gap_gcd x y g (rw is at (rw p.2 at more)));
    }

-- at the end both are the greatest common divisor, and its shift fits as the number does
pub halves_last : (a b x y twos : ℕ) → Halves a b x y twos → x ≡ y → IsGcd a b (x * 2 ^ twos)
halves_last a b x y twos h e = h.same x (dvd_refl x, subst (λ (n : ℕ). x ∣ n) e (dvd_refl x), λ d p q. p)

-- a divisor of a number that fits is not cut off
pub gcd_whole : (a b m g : ℕ) → 0 < a → a < m → IsGcd a b g → IsGcd a b (g % m)
gcd_whole a b m g some fits is =
    let low : g ≤ a = le_of_dvd some is.0 in
    let less : g < m = omega arith in
    rw (mod-eq_of_lt less) is

-- the first step: the greater number by the smaller
pub gcd_of_zero : (a b small large : ℕ) → small ≡ min a b → large ≡ max a b → small ≡ 0 → IsGcd a b large
gcd_of_zero a b small large e f none =
    elim (cases_lt a b) as (λ _. IsGcd a b large) [
      | inl h ↦ let is : large ≡ b = omega arith in rw is (IsGcd-swap b a b (IsGcd-from_zero b a (omega arith)))
      | inr h ↦ let is : large ≡ a = omega arith in rw is (IsGcd-from_zero a b (omega arith))
    ]

pub gcd_of_rest : (a b small large g : ℕ) → small ≡ min a b → large ≡ max a b → IsGcd small (large % small) g
    → IsGcd a b g
gcd_of_rest a b small large g e f is =
    elim (cases_lt a b) as (λ _. IsGcd a b g) [
      | inl h ↦
          let greater : large ≡ b = omega arith in
          let lesser : small ≡ a = omega arith in
          IsGcd-swap b a g (IsGcd-from_mod b a g (rw lesser at (rw greater at is)))
      | inr h ↦
          let greater : large ≡ a = omega arith in
          let lesser : small ≡ b = omega arith in
          IsGcd-from_mod a b g (rw lesser at (rw greater at is))
    ]

pub gcd_of_multiple : (a b small large : ℕ) → small ≡ min a b → large ≡ max a b → large % small ≡ 0 → IsGcd a b small
gcd_of_multiple a b small large e f none =
    gcd_of_rest a b small large small e f (IsGcd-from_zero small (large % small) none)

-- the same fact of equal numbers
pub gcd_same : (a b g x y k : ℕ) → x ≡ a → y ≡ b → g ≡ k → IsGcd x y k → IsGcd a b g
gcd_same a b g x y k e f same is = rw same (rw f at (rw e at is))
