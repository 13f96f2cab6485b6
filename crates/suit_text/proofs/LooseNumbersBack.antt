-- `number_back`: a number that is written is read back, in the loose dialect.
use Rattle.std.proofs.Common.{ℕ, ◌^◌, ◌<◌, ◌≤◌, ◌≡◌, ◌&&◌, Bool, true, false, List, [], ◌∷◌}
use Rattle.std.proofs.Common.{length, decimal, Some, arith, refl}
use Rattle.std.specs.Char.{is_ascii_digit}
use Rattle.std.specs.Str.{all_ascii_digits}
use Rattle.std.proofs.lemmas.Bool.Decides.{nat_tests}
use Rattle.std.proofs.lemmas.Fmt.{decimal_is_IsNumeral, decimal_nonempty, length-decimal-le, digits_decimal}
use Rattle.suit_text.specs.Loose.{number_read}
use Rattle.suit_text.proofs.LooseLinesBack.{ArePlain, IsPlainWord}
use Rattle.suit_text.proofs.ShortNumbers.{numerals, is_below, is_within, power_small}

pub digits_written : (number : ℕ) → number < 2 ^ 64 → all_ascii_digits (decimal number) ≡ true
digits_written number small = digits_decimal numerals number small

pub number_back : (digits number : ℕ) → 0 < digits → digits ≤ 19 → number < 10 ^ digits
    → number_read digits (decimal number) ≡ Some number
number_back digits number some few small =
    let least : 10 ^ digits < 2 ^ 64 = power_small digits few in
    let h : number < 2 ^ 64 = omega arith in
    rw (
      is_below 0 (length (decimal number)) (decimal_nonempty number h),
      is_within (length (decimal number)) digits (length-decimal-le digits number some small h),
      digits_written number h,
      (decimal_is_IsNumeral number h).1,
    ) refl

pub both_true : (a b : Bool) → (a && b) ≡ true → (a ≡ true) × (b ≡ true)
both_true true b h = (refl, h)
both_true false b h = absurd cc

digits_plain : (text : List ℕ) → all_ascii_digits text ≡ true → ArePlain text
digits_plain [] h = tt
digits_plain (byte ∷ rest) h =
    let b = both_true _ _ h in
    let digit : is_ascii_digit byte ≡ true = b.0 in
    (grind (arith, nat_tests), digits_plain rest b.1)

pub number_plain : (number : ℕ) → number < 2 ^ 64 → IsPlainWord (decimal number)
number_plain number small =
    record { some = decimal_nonempty number small; plain = digits_plain (decimal number) (digits_written number small) }
