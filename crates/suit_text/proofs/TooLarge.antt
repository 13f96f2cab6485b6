-- `too_large`: where the digits read so far are too many, so are all.
use Rattle.std.proofs.Common.{ℕ, ◌+◌, ◌*◌, ◌^◌, ◌<◌, ◌≤◌, ◌≡◌, ◌&&◌, nat_lt, Bool, true, false, List, [], ◌∷◌}
use Rattle.std.proofs.Common.{length, drop, None, arith, refl, get_or}
use Rattle.std.specs.Char.{digit_value}
use Rattle.std.specs.Str.{all_ascii_digits}
use Rattle.std.specs.Str.Parse.{digits_value, digits_value_after}
use Rattle.std.proofs.lemmas.Bool.Decides.{nat_tests}
use Rattle.std.proofs.lemmas.List.{drop_more}
use Rattle.suit_text.specs.Digits.{digits_read}

-- digits that follow make no number smaller
pub le_after : (n : ℕ) (ds : List ℕ) → n ≤ digits_value_after 10 n ds
le_after n [] = omega arith
le_after n (c ∷ cs) = omega (arith, le_after (n * 10 + digit_value c) cs)

not_below : (n most : ℕ) → most ≤ n → nat_lt n most ≡ false
not_below n most h = grind (arith, nat_tests)

never : (b : Bool) → (b && false) ≡ false
never true = refl
never false = refl

pub too_large : (text : List ℕ) (i n : ℕ) → i < length text
    → digits_value 10 text ≡ digits_value_after 10 n (drop i text) → 2 ^ 127 ≤ n * 10 → digits_read text ≡ None
too_large text i n h value large =
    let next : digits_value 10 text
    ≡ digits_value_after 10 (n * 10 + digit_value (get_or text i 0)) (drop (i + 1) text) =
    rw (drop_more text i 0 h) at value in
    let past : 2 ^ 127 ≤ digits_value 10 text =
    omega (arith, le_after (n * 10 + digit_value (get_or text i 0)) (drop (i + 1) text)) in
    rw (not_below (digits_value 10 text) (2 ^ 127) past, never (all_ascii_digits text)) refl
