-- One digit more of a quotient, by long division (`digit_more`).
use Rattle.std.proofs.Common.{◌≡◌, ℕ, ◌+◌, ◌*◌, ◌/◌, ◌%◌, ◌^◌, ◌<◌, ◌≤◌, sym, subst, add-one, arith}
use Rattle.std.proofs.Math.Nat.{mul-le-mul_left, pow-le-pow_right, pow-suc}
use Rattle.std.proofs.lemmas.Nat.{div-mul-add, mod_below, le-div}
use Rattle.suit_lines.specs.declared.value.TheConstants.{MOST_DECIMALS, MOST_HUNDREDTHS, MOST_VALUE}

-- so many digits of a quotient are found: the whole number of them, and the rest
pub record Divides (num den power whole rest : ℕ) : Type 0 where
  pub parts : whole * den + rest ≡ num * power
  pub below : rest < den
  pub few : whole ≤ MOST_VALUE * power

few_from : (num den power whole rest : ℕ) → 0 < den → num ≤ MOST_VALUE * den → whole * den + rest ≡ num * power
    → whole ≤ MOST_VALUE * power
few_from num den power whole rest some most parts =
    let scaled : power * num ≤ power * (MOST_VALUE * den) = mul-le-mul_left power most in
    let within : whole * den ≤ (MOST_VALUE * power) * den + 0 = omega (arith, parts, scaled) in
    subst (λ (n : ℕ). whole ≤ n) (div-mul-add (MOST_VALUE * power) den 0 some)
    (le-div whole ((MOST_VALUE * power) * den + 0) den some within)

pub divided_first : (num den : ℕ) → 0 < den → num ≤ MOST_VALUE * den → Divides num den 1 (num / den) (num % den)
divided_first num den some most =
    let parts : num / den * den + num % den ≡ num * 1 = omega arith in
    record {
      parts = parts;
      below = mod_below num den some;
      few = few_from num den 1 (num / den) (num % den) some most parts;
    }

digit_next : (num den power whole rest : ℕ) → 0 < den → num ≤ MOST_VALUE * den → Divides num den power whole rest
    → Divides num den (power * 10) (whole * 10 + rest * 10 / den) (rest * 10 % den)
digit_next num den power whole rest some most so_far =
    let parts : (whole * 10 + rest * 10 / den) * den + rest * 10 % den ≡ num * (power * 10) =
    omega (arith, so_far.parts) in
    record {
      parts = parts;
      below = mod_below (rest * 10) den some;
      few = few_from num den (power * 10) (whole * 10 + rest * 10 / den) (rest * 10 % den) some most parts;
    }

power_next : (k : ℕ) → 10 ^ k * 10 ≡ 10 ^ (k + 1)
power_next k = rw (add-one) (sym (pow-suc 10 k))

pub digit_more : (num den digit whole rest : ℕ) → 0 < den → num ≤ MOST_VALUE * den
    → Divides num den (10 ^ digit) whole rest
    → Divides num den (10 ^ (digit + 1)) (whole * 10 + rest * 10 / den) (rest * 10 % den)
digit_more num den digit whole rest some most so_far =
    subst (λ (power : ℕ). Divides num den power (whole * 10 + rest * 10 / den) (rest * 10 % den)) (power_next digit)
    (digit_next num den (10 ^ digit) whole rest some most so_far)

-- up to four digits make no large number
pub digits_few : (num den digit whole rest : ℕ) → digit ≤ MOST_DECIMALS → Divides num den (10 ^ digit) whole rest
    → whole ≤ MOST_HUNDREDTHS
digits_few num den digit whole rest few so_far =
    let power : 10 ^ digit ≤ 10000 = pow-le-pow_right {n = 10} (omega arith) {i = digit} {j = 4} few in
    omega (arith, so_far.few, power)
