-- Numerators and denominators in lowest terms.
use Rattle.std.specs.Prelude.{ℕ, ◌≡◌, ◌==◌, ◌&&◌, ◌<ℤ◌, Bool, true, false, ℤ, pos, int_lt, unsigned_abs}
use Rattle.std.proofs.Common.{arith, refl}
use Rattle.std.proofs.lemmas.Bool.Decides.{nat_tests}
use Rattle.suit_num.specs.Divisors.{IsCoprime, gcd_of}
use Rattle.suit_num.proofs.DivisorLaws.{IsGcd-gcd_of, coprime_from_IsGcd}
use Rattle.suit_num.proofs.IntegerLaws.{int_lt-true}

-- the denominator is above 0, and no number above 1 divides both
abbrev pub is_lowest : ℤ → ℤ → Bool
is_lowest num den = int_lt (pos 0) den && (gcd_of (unsigned_abs num) (unsigned_abs den) == 1)

both : (a b : Bool) → (a && b) ≡ true → (a ≡ true) × (b ≡ true)
both true b passed = (refl, passed)
both false b passed = absurd cc

is_one : (n : ℕ) → (n == 1) ≡ true → n ≡ 1
is_one n passed = grind (arith, nat_tests)

pub are_positive : (num den : ℤ) → is_lowest num den ≡ true → pos 0 <ℤ den
are_positive num den passed =
    int_lt-true (pos 0) den
    (both (int_lt (pos 0) den) (gcd_of (unsigned_abs num) (unsigned_abs den) == 1) passed).0

pub are_coprime : (num den : ℤ) → is_lowest num den ≡ true → IsCoprime (unsigned_abs num) (unsigned_abs den)
are_coprime num den passed =
    let one : gcd_of (unsigned_abs num) (unsigned_abs den) ≡ 1 =
    is_one (gcd_of (unsigned_abs num) (unsigned_abs den))
    ((both (int_lt (pos 0) den) (gcd_of (unsigned_abs num) (unsigned_abs den) == 1) passed).1) in
    coprime_from_IsGcd (unsigned_abs num) (unsigned_abs den)
    (rw one at (IsGcd-gcd_of (unsigned_abs num) (unsigned_abs den)))
