-- What a number over a positive number comes to in lowest terms (`lowest_exact`).
use Rattle.std.proofs.Common.{◌≡◌, ℕ, ◌*◌, ◌<◌, true, sym, ap, ◌∙◌, subst, arith}
use Rattle.std.specs.Prelude.{ℤ, pos, negsuc, ◌*ℤ◌, ◌<ℤ◌, ◌≤ℤ◌, int_div, int_lt, unsigned_abs}
use Rattle.std.specs.Int.{IsGcd}
use Rattle.std.proofs.lemmas.Int.{ints, unsigned_abs-mul}
use Rattle.std.proofs.Math.IntN.{*ℤ_comm, zero-*ℤ}
use Rattle.std.proofs.Math.Nat.{pos_of_dvd_of_pos}
use Rattle.suit_num.specs.Divisors.{IsCoprime, gcd_of, gcd_within}
use Rattle.suit_num.proofs.DivisorLaws.{IsGcd-gcd_of, coprime_from_IsGcd, coprime_quotients}
use Rattle.suit_num.proofs.FractionLaws.{quotients_same}
use Rattle.suit_num.proofs.IntegerLaws.{div-mul, int_lt-true, le-mul_right, le_from_mul, mul-one, positive_from_mul}

some_size : (z : ℤ) → pos 0 <ℤ z → 0 < unsigned_abs z
some_size (pos n) some = omega (arith, ints)
some_size (negsuc n) some = absurd (omega (arith, ints))

sizes : (q a : ℤ) (g : ℕ) → q *ℤ pos g ≡ a → unsigned_abs q * g ≡ unsigned_abs a
sizes q a g is = sym (unsigned_abs-mul q (pos g)) ∙ ap unsigned_abs is

-- a quotient by a positive number is no larger
shrinks : (q z : ℤ) (g : ℕ) → 0 < g → q *ℤ pos g ≡ z → pos 0 ≤ℤ z → (pos 0 ≤ℤ q) × (q ≤ℤ z)
shrinks q z g some is low =
    let positive : pos 0 <ℤ pos g = omega (arith, ints, some) in
    let one : pos 1 ≤ℤ pos g = omega (arith, ints, some) in
    let start : pos 0 ≤ℤ q =
    le_from_mul (pos 0) q (pos g) (subst (λ (n : ℤ). n ≤ℤ (q *ℤ pos g)) (sym (zero-*ℤ (pos g)))
    (subst (λ (n : ℤ). pos 0 ≤ℤ n) (sym is) low)) positive in (
      start,
      subst (λ (n : ℤ). n ≤ℤ z) (*ℤ_comm (pos 1) q ∙ mul-one q)
          (subst (λ (n : ℤ). (pos 1 *ℤ q) ≤ℤ n) (*ℤ_comm (pos g) q ∙ is) (le-mul_right (pos 1) (pos g) q one start)),
    )

module _ (num den : ℤ) (told : int_lt (pos 0) den ≡ true) where
  abbrev divisor : ℕ
  divisor = gcd_of (unsigned_abs num) (unsigned_abs den)

  abbrev top : ℤ
  top = int_div num (pos divisor)

  abbrev bottom : ℤ
  bottom = int_div den (pos divisor)

  some : pos 0 <ℤ den
  some = int_lt-true (pos 0) den told

  greatest : IsGcd (unsigned_abs num) (unsigned_abs den) divisor
  greatest = IsGcd-gcd_of (unsigned_abs num) (unsigned_abs den)

  some_divisor : 0 < divisor
  some_divisor = pos_of_dvd_of_pos greatest.1 (some_size den some)

  num_back : top *ℤ pos divisor ≡ num
  num_back = div-mul num (pos divisor) greatest.0

  den_back : bottom *ℤ pos divisor ≡ den
  den_back = div-mul den (pos divisor) greatest.1

  -- its denominator is positive
  pub lowest_positive : pos 0 <ℤ bottom
  lowest_positive =
      positive_from_mul bottom (pos divisor) (subst (λ (z : ℤ). pos 0 <ℤ z) (sym den_back) some)
      (omega (arith, ints, some_divisor))

  -- nothing divides both parts
  pub lowest_coprime : IsCoprime (unsigned_abs top) (unsigned_abs bottom)
  lowest_coprime =
      coprime_quotients (unsigned_abs num) (unsigned_abs den) divisor (unsigned_abs top) (unsigned_abs bottom)
      some_divisor greatest (sizes top num divisor num_back) (sizes bottom den divisor den_back)

  -- and it is the number over the other
  pub lowest_exact : num *ℤ bottom ≡ top *ℤ den
  lowest_exact = sym (quotients_same num den (pos divisor) top bottom num_back den_back)

  -- its numerator is no larger than the number
  pub lowest_num : pos 0 ≤ℤ num → (pos 0 ≤ℤ top) × (top ≤ℤ num)
  lowest_num low = shrinks top num divisor some_divisor num_back low

  -- nor is its denominator larger than the other
  pub lowest_den : bottom ≤ℤ den
  lowest_den =
      let low : pos 0 ≤ℤ den = omega (arith, ints, some) in
      (shrinks bottom den divisor some_divisor den_back low).1

pub one_positive : pos 0 <ℤ pos 1
one_positive = omega (arith, ints)

pub one_coprime : IsCoprime (unsigned_abs (pos 0)) (unsigned_abs (pos 1))
unfolding gcd_of gcd_within
one_coprime = coprime_from_IsGcd 0 1 (IsGcd-gcd_of 0 1)
