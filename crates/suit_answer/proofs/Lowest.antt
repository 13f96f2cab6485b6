-- `told_as`: which two numbers are the lowest terms of a fraction.
use Rattle.std.proofs.Common.{◌≡◌, ◌==◌, Bool, true, false, Some, None, Ok, ℤ, pos, refl, sym, ap}
use Rattle.std.proofs.Common.{List, ℕ, arith}
use Rattle.std.specs.Prelude.{◌<ℤ◌, ◌≤ℤ◌, int_lt, unsigned_abs}
use Rattle.std.proofs.Props.{props}
use Rattle.std.proofs.lemmas.Bool.Decides.{nat_tests}
use Rattle.std.proofs.lemmas.Int.{ints}
use Rattle.suit_num.specs.Divisors.{IsCoprime, gcd_of}
use Rattle.suit_num.specs.declared.fraction.Frac.{Frac}
use Rattle.suit_num.proofs.IntegerLaws.{int_lt-false}
use Rattle.suit_cards.specs.Cards.{Text}
use Rattle.suit_answer.specs.Forms.{value_form}
use Rattle.suit_answer.specs.Fractions.{fraction_by, fraction_of}
use Rattle.suit_answer.specs.LowestTerms.{is_lowest}
use Rattle.suit_answer.specs.Numbers.{number_due}
use Rattle.suit_answer.specs.Reading.{value_due}
use mathlib.Core.HLevel.{is_prop→PathP}

positive_prop : (den : ℤ) → IsProp (pos 0 <ℤ den)
positive_prop den = Prim.hlevel props

coprime_prop : (num den : ℤ) → IsProp (IsCoprime (unsigned_abs num) (unsigned_abs den))
coprime_prop num den = Prim.hlevel props

-- fractions of the same terms are the same
pub same_fraction : (f g : Frac) → f.num ≡ g.num → f.den ≡ g.den → f ≡ g
same_fraction f g p q = λ i. record {
  num = p i;
  den = q i;
  positive = is_prop→PathP (λ j. pos 0 <ℤ q j) (λ j. positive_prop (q j)) f.positive g.positive i;
  coprime =
      is_prop→PathP (λ j. IsCoprime (unsigned_abs (p j)) (unsigned_abs (q j))) (λ j. coprime_prop (p j) (q j))
      f.coprime g.coprime i;
}

by_false : (num den : ℤ) (outcome : Bool) (e : is_lowest num den ≡ outcome) → outcome ≡ false
    → fraction_by num den outcome e ≡ None
by_false num den true e failed = absurd cc
by_false num den false e failed = refl

pub told_none : (num den : ℤ) → is_lowest num den ≡ false → fraction_of num den ≡ None
told_none num den failed = by_false num den (is_lowest num den) refl failed

by_true : (num den : ℤ) (f : Frac) (outcome : Bool) (e : is_lowest num den ≡ outcome) → outcome ≡ true
    → f.num ≡ num → f.den ≡ den → fraction_by num den outcome e ≡ Some f
by_true num den f true e passed p q = ap (λ (g : Frac). Some g) (same_fraction _ f (sym p) (sym q))
by_true num den f false e passed p q = absurd cc

-- numbers in lowest terms are the terms of a fraction
pub told_as : (num den : ℤ) (f : Frac) → f.num ≡ num → f.den ≡ den → is_lowest num den ≡ true
    → fraction_of num den ≡ Some f
told_as num den f p q passed = by_true num den f (is_lowest num den) refl passed p q

above_zero : (den : ℤ) (b : Bool) → int_lt (pos 0) den ≡ b → pos 0 <ℤ den → b ≡ true
above_zero den true e h = refl
above_zero den false e h = let low : den ≤ℤ pos 0 = int_lt-false (pos 0) den e in absurd (omega (arith, ints))

same_one : (g : ℕ) (h : ℤ) → h ≡ pos g → h ≡ pos 1 → (g == 1) ≡ true
same_one g h p q = let one : g ≡ 1 = cc in grind (arith, nat_tests)

pub lowest_yes : (num den g : ℤ) → pos 0 <ℤ den → g ≡ pos (gcd_of (unsigned_abs num) (unsigned_abs den)) → g ≡ pos 1
    → is_lowest num den ≡ true
lowest_yes num den g h p q =
    rw (above_zero den (int_lt (pos 0) den) refl h, same_one (gcd_of (unsigned_abs num) (unsigned_abs den)) g p q) refl

-- the value of a line that tells one
pub value_found : (line : ℕ) (words : List Text) (left right : Text) (num den : ℤ) (value : Frac)
    → value_form words ≡ Some (left, right) → number_due line left ≡ Ok num → number_due line right ≡ Ok den
    → fraction_of num den ≡ Some value → value_due line words ≡ Ok value
unfolding value_due
value_found line words left right num den value form p q told = rw (form, p, q, told) refl
