-- `number_back` and `small_back`: what is written for a number is read back as it.
use Rattle.std.proofs.Common.{ℕ, zero, suc, ◌+◌, ◌%◌, ◌^◌, ◌<◌, ◌≤◌, ◌≡◌, ◌==◌, ◌&&◌, nat_lt, Bool, true, false}
use Rattle.std.proofs.Common.{List, [], ◌∷◌, ◌++◌, length, get_or, codes, decimal, ℤ, pos, negsuc, Some, Ok, refl}
use Rattle.std.proofs.Common.{arith, length-append}
use Rattle.std.specs.Char.{is_ascii_digit}
use Rattle.std.specs.Fmt.{signed_decimal}
use Rattle.std.specs.List.{AllByRecursion}
use Rattle.std.specs.Str.{all_ascii_digits, bytes_eq}
use Rattle.std.proofs.lemmas.Bool.Decides.{nat_tests}
use Rattle.std.proofs.lemmas.Fmt.{decimal_digit, decimal_by_steps_wide, decimal_is_IsNumeral_wide}
use Rattle.std.proofs.lemmas.Int.{ints}
use Rattle.suit_text.specs.Strict.{is_filled, has_spare_zero, number_read}
use Rattle.suit_answer.specs.Numbers.{number_due, small_due}
use Rattle.suit_answer.specs.Writable.{IsWritableNumber}
use Rattle.suit_text.proofs.ShortNumbers.{is_below, is_within, numerals}
use Rattle.suit_text.proofs.LooseNumbersBack.{both_true}

-- a word that is written: bytes above the space, and no colon
pub record IsWord (word : List ℕ) : Type 0 where
  pub some : is_filled word ≡ true
  pub plain : AllByRecursion (λ byte. 32 < byte) word
  pub no_colon : bytes_eq word (codes ":") ≡ false

-- only digits
abbrev pub AreDigits : List ℕ → Type 0
AreDigits word = AllByRecursion (λ byte. (47 < byte) × (byte < 58)) word

digits_are : (word : List ℕ) → all_ascii_digits word ≡ true → AreDigits word
digits_are [] h = tt
digits_are (byte ∷ word) h =
    let tests = both_true (is_ascii_digit byte) (all_ascii_digits word) h in
    let digit : is_ascii_digit byte ≡ true = tests.0 in
    ((grind (arith, nat_tests), grind (arith, nat_tests)), digits_are word tests.1)

filled_is : (word : List ℕ) → 0 < length word → is_filled word ≡ true
filled_is [] h = absurd (omega arith)
filled_is (byte ∷ word) h = refl

-- the first digit is no zero, unless the number is
record Leads (n : ℕ) (word : List ℕ) : Type 0 where
  some : 0 < length word
  first : 0 < n → 48 < get_or word 0 0

first_kept : (word : List ℕ) (byte : ℕ) → 0 < length word → get_or (word ++ byte ∷ []) 0 0 ≡ get_or word 0 0
first_kept [] byte h = absurd (omega arith)
first_kept (x ∷ xs) byte h = refl

leads : (n : ℕ) → n < 10 ^ 64 → Leads n (decimal n)
leads = decimal_by_steps_wide Leads
    (λ n small. record { some = omega arith; first = λ above. omega arith })
    (λ n word large before. record {
      some = omega (arith, length-append word ((48 + n % 10) ∷ []));
      first = λ above. let kept = first_kept word (48 + n % 10) before.some in
          let high : 48 < get_or word 0 0 = before.first (omega arith) in omega arith;
    })

never_zero : (b : Bool) (first : ℕ) → 48 < first → (b && (first == 48)) ≡ false
never_zero true first h = grind (arith, nat_tests)
never_zero false first h = refl

no_spare : (n : ℕ) → n < 10 ^ 64 → has_spare_zero (decimal n) ≡ false
no_spare zero small = rw (decimal_digit 0 (omega arith)) refl
no_spare (suc n) small =
    never_zero (nat_lt 1 (length (decimal (suc n)))) (get_or (decimal (suc n)) 0 0)
    ((leads (suc n) small).first (omega arith))

pub decimal_digits : (n : ℕ) → n < 2 ^ 127 → AreDigits (decimal n)
decimal_digits n small =
    let wide : n < 10 ^ 64 = omega arith in
    digits_are (decimal n) (numerals.from (decimal n) (decimal_is_IsNumeral_wide n wide).0.1)

pub read_back : (n : ℕ) → n < 2 ^ 127 → number_read (decimal n) ≡ Some n
read_back n small =
    let wide : n < 10 ^ 64 = omega arith in
    let is = decimal_is_IsNumeral_wide n wide in
    rw (
      filled_is (decimal n) is.0.0,
      no_spare n wide,
      numerals.from (decimal n) is.0.1,
      is.1,
      is_below n (2 ^ 127) small,
    ) refl

-- a number that is written is read back
pub number_back : (line : ℕ) (z : ℤ) → IsWritableNumber z → number_due line (signed_decimal z) ≡ Ok z
unfolding number_due
number_back line (pos n) h = let small : n < 2 ^ 127 = h.narrow in rw (read_back n small) refl
number_back line (negsuc n) h = let least = h.least in absurd (omega (arith, ints))

-- and so is one with a limit
pub small_back : (most line n : ℕ) → n ≤ most → n < 2 ^ 127 → small_due most line (decimal n) ≡ Ok n
unfolding small_due
small_back most line n low small = rw (read_back n small, is_within n most low) refl

plain_digits : (word : List ℕ) → AreDigits word → AllByRecursion (λ byte. 32 < byte) word
plain_digits [] h = tt
plain_digits (byte ∷ word) h = (let above : 47 < byte = h.0.0 in omega arith, plain_digits word h.1)

no_colon : (word : List ℕ) → AreDigits word → bytes_eq word (codes ":") ≡ false
no_colon [] h = refl
no_colon (byte ∷ word) h =
    let low : byte < 58 = h.0.1 in let not_colon : (byte == 58) ≡ false = grind (arith, nat_tests) in rw not_colon refl

pub decimal_word : (n : ℕ) → n < 2 ^ 127 → IsWord (decimal n)
decimal_word n small =
    let wide : n < 10 ^ 64 = omega arith in
    let digits = decimal_digits n small in
    record {
      some = filled_is (decimal n) (decimal_is_IsNumeral_wide n wide).0.0;
      plain = plain_digits (decimal n) digits;
      no_colon = no_colon (decimal n) digits;
    }

pub number_word : (z : ℤ) → IsWritableNumber z → IsWord (signed_decimal z)
number_word (pos n) h = decimal_word n h.narrow
number_word (negsuc n) h = let least = h.least in absurd (omega (arith, ints))

pub number_digits : (z : ℤ) → IsWritableNumber z → AreDigits (signed_decimal z)
number_digits (pos n) h = decimal_digits n h.narrow
number_digits (negsuc n) h = let least = h.least in absurd (omega (arith, ints))
