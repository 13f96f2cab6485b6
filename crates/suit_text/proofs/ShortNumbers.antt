-- `short_read`: few digits are a small number.
use Rattle.std.proofs.Common.{ℕ, ◌^◌, ◌<◌, ◌≤◌, ◌≡◌, ◌&&◌, nat_lt, nat_le, Bool, true, false, cond, List, length}
use Rattle.std.proofs.Common.{Some, None, arith, refl, lit<}
use Rattle.std.specs.Str.{all_ascii_digits}
use Rattle.std.specs.Str.Parse.{digits_value}
use Rattle.std.proofs.Math.Nat.{pow-le-pow_right}
use Rattle.std.proofs.lemmas.Bool.Decides.{nat_tests}
use Rattle.std.proofs.lemmas.Str.Parse.{IsNumeralModel, numerals_by_value, tells_all_ascii_digits, digits_value_short}
use Rattle.suit_text.specs.Digits.{digits_read}
use Rattle.suit_text.specs.Loose.{number_read}

pub numerals : IsNumeralModel (λ ds. all_ascii_digits ds ≡ true) (digits_value 10)
numerals = numerals_by_value (λ ds. all_ascii_digits ds ≡ true) tells_all_ascii_digits

pub is_below : (a b : ℕ) → a < b → nat_lt a b ≡ true
is_below a b h = grind (arith, nat_tests)

pub is_within : (a b : ℕ) → a ≤ b → nat_le a b ≡ true
is_within a b h = grind (arith, nat_tests)

-- so many digits fit eight bytes
pub power_small : (digits : ℕ) → digits ≤ 19 → 10 ^ digits < 2 ^ 64
power_small digits few = let least : 10 ^ digits ≤ 10 ^ 19 = pow-le-pow_right {n = 10} (lit< tt) few in omega arith

read_by : (b : Bool) (digits : ℕ) (text : List ℕ) → all_ascii_digits text ≡ b → 0 < length text → length text ≤ digits
    → digits ≤ 19 → number_read digits text ≡ digits_read text
read_by true digits text e some few short =
    let value : digits_value 10 text < 10 ^ digits = digits_value_short numerals text digits e few in
    let least : 10 ^ digits < 2 ^ 64 = power_small digits short in
    let low : digits_value 10 text < 2 ^ 127 = omega arith in
    rw (
      is_below 0 (length text) some,
      is_within (length text) digits few,
      e,
      is_below (digits_value 10 text) (2 ^ 127) low,
    ) refl
read_by false digits text e some few short =
    rw (is_below 0 (length text) some, is_within (length text) digits few, e) refl

-- a word of few digits is read as any digits are
pub short_read : (digits : ℕ) (text : List ℕ) → 0 < length text → length text ≤ digits → digits ≤ 19
    → number_read digits text ≡ digits_read text
short_read digits text some few short = read_by (all_ascii_digits text) digits text refl some few short

small_by : (b : Bool) (digits number : ℕ) (text : List ℕ) → all_ascii_digits text ≡ b → length text ≤ digits
    → cond (b && nat_lt (digits_value 10 text) (2 ^ 127)) (Some (digits_value 10 text)) None ≡ Some number
    → number < 10 ^ digits
small_by true digits number text e few h =
    let value : digits_value 10 text < 10 ^ digits = digits_value_short numerals text digits e few in
    let same : digits_value 10 text ≡ number = is_same (nat_lt (digits_value 10 text) (2 ^ 127)) _ number h in
    omega arith where
      is_same : (b : Bool) (m n : ℕ) → cond b (Some m) None ≡ Some n → m ≡ n
      is_same true m n h = cc
      is_same false m n h = absurd cc
small_by false digits number text e few h = absurd cc

pub short_small : (digits number : ℕ) (text : List ℕ) → length text ≤ digits → digits_read text ≡ Some number
    → number < 10 ^ digits
short_small digits number text few h = small_by (all_ascii_digits text) digits number text refl few h
