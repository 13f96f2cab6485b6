-- Greatest common divisors, least common multiples and lowest terms of numbers with a sign, by their magnitudes.
use Rattle.std.proofs.Common.{◌≡◌, ℕ, zero, suc, ◌*◌, ◌^◌, ◌<◌, ◌≤◌, sym, ap, ◌∙◌, subst, refl, arith, Option, Some}
use Rattle.std.proofs.Common.{None}
use Rattle.std.specs.Prelude.{ℤ, pos, negsuc, ◌*ℤ◌, ◌<ℤ◌, unsigned_abs, SomeIff, IfSome}
use Rattle.std.specs.Int.{IsGcd, ◌∣◌, w128, cast_signed}
use Rattle.std.proofs.lemmas.Int.{ints, to_z_pos, unsigned_abs-mul}
use Rattle.std.proofs.lemmas.Nat.Gcd.{le_of_dvd, same_from_IsGcd}
use Rattle.std.proofs.Math.Nat.{pos_of_dvd_of_pos}
use Rattle.suit_num.specs.Narrow.{IsNarrow}
use Rattle.suit_num.specs.Divisors.{IsCoprime, IsLcm, gcd_of, lcm_of}
use Rattle.suit_num.proofs.DivisorLaws.{IsGcd-gcd_of, coprime_quotients, IsLcm-from_quotient, lcm_of-is}
use Rattle.suit_num.proofs.IntegerLaws.{positive_from_mul}
use Rattle.suit_num.proofs.FractionLaws.{quotients_same}

divisor_bounds : (n g m : ℕ) → 0 < n → n < m → g ∣ n → (0 < g) × (g < m)
divisor_bounds n g m some fits h = (pos_of_dvd_of_pos h some, omega (arith, le_of_dvd some h))

-- a divisor of two numbers, of which one is not 0, is in their range
pub gcd_bounds : (a b : ℤ) (g : ℕ) → ¬ ((a ≡ pos 0) × (b ≡ pos 0)) → IsNarrow a → IsNarrow b
    → IsGcd (unsigned_abs a) (unsigned_abs b) g → (0 < g) × (g < 2 ^ 127)
gcd_bounds (pos zero) (pos zero) g some p q is = absurd (some (refl, refl))
gcd_bounds (pos zero) (pos (suc n)) g some p q is = divisor_bounds (suc n) g (2 ^ 127) (omega arith) q is.1
gcd_bounds (pos zero) (negsuc n) g some p q is = divisor_bounds (suc n) g (2 ^ 127) (omega arith) q is.1
gcd_bounds (pos (suc n)) b g some p q is = divisor_bounds (suc n) g (2 ^ 127) (omega arith) p is.0
gcd_bounds (negsuc n) b g some p q is = divisor_bounds (suc n) g (2 ^ 127) (omega arith) p is.0

-- what `gcd` says of its result
pub record IsSignedGcd (a b g : ℤ) : Type 0 where
  pub greatest : IsGcd (unsigned_abs a) (unsigned_abs b) (unsigned_abs g)
  pub value : g ≡ pos (gcd_of (unsigned_abs a) (unsigned_abs b))
  pub positive : pos 0 <ℤ g
  pub narrow : IsNarrow g

pub signed_gcd : (a b : ℤ) (g : ℕ) → ¬ ((a ≡ pos 0) × (b ≡ pos 0)) → IsNarrow a → IsNarrow b
    → IsGcd (unsigned_abs a) (unsigned_abs b) g → IsSignedGcd a b (cast_signed w128 g)
signed_gcd a b g some p q is =
    let bounds : (0 < g) × (g < 2 ^ 127) = gcd_bounds a b g some p q is in
    let e : cast_signed w128 g ≡ pos g = to_z_pos w128 g bounds.1 in
    subst (IsSignedGcd a b) (sym e) (record {
      greatest = is;
      value = ap pos (same_from_IsGcd _ _ _ _ is (IsGcd-gcd_of _ _));
      positive = omega (arith, ints, bounds.0);
      narrow = bounds.1;
    })

magnitude : (z : ℤ) → pos 0 <ℤ z → (0 < unsigned_abs z) × (z ≡ pos (unsigned_abs z))
magnitude (pos n) h = (omega (arith, ints), refl)
magnitude (negsuc n) h = absurd (omega (arith, ints))

sizes : (q g a : ℤ) → q *ℤ g ≡ a → unsigned_abs q * unsigned_abs g ≡ unsigned_abs a
sizes q g a e = sym (unsigned_abs-mul q g) ∙ ap unsigned_abs e

-- the product that `lcm` makes is the least common multiple
pub signed_lcm : (a b g q : ℤ) → pos 0 <ℤ a → pos 0 <ℤ b → IsGcd (unsigned_abs a) (unsigned_abs b) (unsigned_abs g)
    → pos 0 <ℤ g → q *ℤ g ≡ a → (q *ℤ b ≡ pos (lcm_of (unsigned_abs a) (unsigned_abs b)))
    × IsLcm (unsigned_abs a) (unsigned_abs b) (unsigned_abs (q *ℤ b))
signed_lcm a b g q some_a some_b is some_g e =
    let some_q : pos 0 <ℤ q = positive_from_mul q g (subst (λ (z : ℤ). pos 0 <ℤ z) (sym e) some_a) some_g in
    let least = IsLcm-from_quotient (unsigned_abs a) (unsigned_abs b) (unsigned_abs g) (unsigned_abs q)
    (magnitude g some_g).0 is (sizes q g a e) in
    let product : q *ℤ b ≡ pos (unsigned_abs q * unsigned_abs b) =
    cc ((magnitude q some_q).1, (magnitude b some_b).1) in (
      product ∙ ap pos (sym (lcm_of-is _ _ _ _ (magnitude g some_g).0 is (sizes q g a e))),
      rw (unsigned_abs-mul q b) least,
    )

pub some_least : (a b : ℕ) (answer : Option ℤ) (P : Type 0) (v : ℤ) → SomeIff answer P v → IsLcm a b (unsigned_abs v)
    → IfSome answer (λ m. IsLcm a b (unsigned_abs m))
some_least a b None P v h is = tt
some_least a b (Some x) P v h is = subst (λ (z : ℤ). IsLcm a b (unsigned_abs z)) (sym h.1) is

smaller : (m n k : ℕ) → 0 < n → m * n ≡ k → m ≤ k
smaller m zero k some e = absurd (omega arith)
smaller m (suc n) k some e = omega arith

-- an exact quotient is in the range
pub IsNarrow_from_mul : (q d a : ℤ) → pos 0 <ℤ d → q *ℤ d ≡ a → IsNarrow a → IsNarrow q
IsNarrow_from_mul q d a some e fits =
    omega (arith, fits, smaller (unsigned_abs q) (unsigned_abs d) (unsigned_abs a) (magnitude d some).0 (sizes q d a e))

-- what `Frac::reduced` says of its result's parts
pub record IsLowestTerms (num den q r : ℤ) : Type 0 where
  pub positive : pos 0 <ℤ r
  pub coprime : IsCoprime (unsigned_abs q) (unsigned_abs r)
  pub value : q *ℤ den ≡ num *ℤ r
  pub narrow : IsNarrow q

pub lowest_terms : (num den g q r : ℤ) → pos 0 <ℤ den → IsNarrow num
    → IsGcd (unsigned_abs num) (unsigned_abs den) (unsigned_abs g) → pos 0 <ℤ g → q *ℤ g ≡ num → r *ℤ g ≡ den
    → IsLowestTerms num den q r
lowest_terms num den g q r some_den fits is some_g e f = record {
  positive = positive_from_mul r g (subst (λ (z : ℤ). pos 0 <ℤ z) (sym f) some_den) some_g;
  coprime = coprime_quotients _ _ (unsigned_abs g) _ _ (magnitude g some_g).0 is (sizes q g num e) (sizes r g den f);
  value = quotients_same num den g q r e f;
  narrow = IsNarrow_from_mul q g num some_g e fits;
}
