-- `number_taken` and `small_taken`: a word that stands for a number is what is written for it.
use Rattle.std.proofs.Common.{ℕ, ◌+◌, ◌*◌, ◌/◌, ◌%◌, ◌^◌, ◌<◌, ◌≤◌, ◌≡◌, ◌&&◌, nat_lt, nat_le, not}
use Rattle.std.proofs.Common.{Bool, true, false, cond, List, [], ◌∷◌, ◌++◌, length, get_or, decimal, ℤ, pos}
use Rattle.std.proofs.Common.{Option, Some, None, Ok, Err, refl, sym, ap, ◌∙◌, subst, append_assoc, arith}
use Rattle.std.specs.Char.{digit_value}
use Rattle.std.specs.Fmt.{signed_decimal}
use Rattle.std.specs.Option.{ok_or, option_map}
use Rattle.std.specs.Str.{all_ascii_digits}
use Rattle.std.specs.Str.Parse.{digits_value, digits_value_after, AllDigits}
use Rattle.std.proofs.lemmas.Bool.Decides.{nat_tests}
use Rattle.std.proofs.lemmas.Fmt.{decimal_digit, decimal_step_wide}
use Rattle.std.proofs.lemmas.List.{append-nil}
use Rattle.std.proofs.lemmas.Int.{ints}
use Rattle.std.proofs.lemmas.Str.Parse.{digit_from_value}
use Rattle.suit_cards.specs.Cards.{Text}
use Rattle.suit_text.specs.Digits.{digits_read}
use Rattle.suit_text.specs.Strict.{is_filled, has_spare_zero, number_read}
use Rattle.suit_answer.specs.Numbers.{number_due, small_due}
use Rattle.suit_answer.specs.Results.{◌>>=◌}
use Rattle.suit_answer.specs.Writable.{IsWritableNumber}
use Rattle.suit_text.proofs.ShortNumbers.{numerals}
use Rattle.suit_text.proofs.TooLarge.{le_after}
use Rattle.suit_text.proofs.LooseNumbersBack.{both_true}
use Rattle.suit_answer.specs.declared.faults.AnswerFault.TheVariants.{Number}

digit_code : (c : ℕ) → digit_value c < 10 → 48 + digit_value c ≡ c
digit_code c small = let range = digit_from_value c small in grind (arith, nat_tests)

written_after : (n : ℕ) (ds : List ℕ) → 0 < n → AllDigits 10 ds → digits_value_after 10 n ds < 10 ^ 64
    → decimal (digits_value_after 10 n ds) ≡ decimal n ++ ds
written_after n [] some digits small = sym (append-nil (decimal n))
written_after n (c ∷ cs) some digits small =
    let m : ℕ = n * 10 + digit_value c in
    let digit : digit_value c < 10 = digits.0 in
    let code = digit_code c digit in
    let front : m / 10 ≡ n = omega arith in
    let end : 48 + m % 10 ≡ c = omega arith in
    written_after m cs (omega arith) digits.1 small
    ∙ ap (λ (x : List ℕ). x ++ cs) (decimal_step_wide m (omega arith) (omega (arith, le_after m cs))
    ∙ (λ i. decimal (front i) ++ (end i ∷ [])))
    ∙ append_assoc (decimal n) (c ∷ []) cs

-- digits without a zero in front that could be left out are what is written of their number
written_of : (ds : List ℕ) → AllDigits 10 ds → 0 < length ds → (get_or ds 0 0 ≡ 48 → length ds ≡ 1)
    → digits_value 10 ds < 10 ^ 64 → decimal (digits_value 10 ds) ≡ ds
written_of [] digits some lead small = absurd (omega arith)
written_of (c ∷ []) digits some lead small =
    let digit : digit_value c < 10 = digits.0 in
    let code = digit_code c digit in
    decimal_digit (0 * 10 + digit_value c) (omega arith) ∙ ap (λ (x : ℕ). x ∷ []) (omega arith)
written_of (c ∷ e ∷ cs) digits some lead small =
    let digit : digit_value c < 10 = digits.0 in
    let code = digit_code c digit in
    let high : c ≡ 48 → ⊥ = λ zero. omega (arith, lead zero) in
    let is : 48 + (0 * 10 + digit_value c) ≡ c = omega arith in
    written_after (0 * 10 + digit_value c) (e ∷ cs) (omega arith) digits.1 small
    ∙ ap (λ (x : List ℕ). x ++ (e ∷ cs)) (decimal_digit (0 * 10 + digit_value c) (omega arith)
    ∙ ap (λ (x : ℕ). x ∷ []) is)

-- what an outcome of a test says that has an answer
pub passed : {A : Type 0} (b : Bool) (o : Option A) (x : A) → cond b o None ≡ Some x → (b ≡ true) × (o ≡ Some x)
passed true o x h = (refl, h)
passed false o x h = absurd cc

no_spare : (text : List ℕ) → is_filled text ≡ true → not (has_spare_zero text) ≡ true
    → (0 < length text) × (get_or text 0 0 ≡ 48 → length text ≡ 1)
no_spare [] some none = absurd cc
no_spare (c ∷ []) some none = (omega arith, λ zero. refl)
no_spare (c ∷ e ∷ cs) some none = (omega arith, λ zero. absurd (grind (arith, nat_tests)))

below : (a b : ℕ) → nat_lt a b ≡ true → a < b
below a b h = grind (arith, nat_tests)

pub at_most : (a b : ℕ) → nat_le a b ≡ true → a ≤ b
at_most a b h = grind (arith, nat_tests)

-- a word that stands for a number is what is written of it
pub read_taken : (text : Text) (n : ℕ) → number_read text ≡ Some n → (text ≡ decimal n) × (n < 2 ^ 127)
read_taken text n h =
    let outer = passed (is_filled text && not (has_spare_zero text)) (digits_read text) n h in
    let form = both_true (is_filled text) (not (has_spare_zero text)) outer.0 in
    let lead = no_spare text form.0 form.1 in
    let inner = passed (all_ascii_digits text
    && nat_lt (digits_value 10 text) (2 ^ 127)) (Some (digits_value 10 text)) n
    outer.1 in
    let tests = both_true (all_ascii_digits text) (nat_lt (digits_value 10 text) (2 ^ 127)) inner.0 in
    let small : digits_value 10 text < 2 ^ 127 = below (digits_value 10 text) (2 ^ 127) tests.1 in
    let value : digits_value 10 text ≡ n = (let e = inner.1 in cc) in (
      sym (written_of text (numerals.to text tests.0) lead.0 lead.1 (omega arith)) ∙ ap decimal value,
      subst (λ (m : ℕ). m < 2 ^ 127) value small,
    )

due_taken : (line : ℕ) (o : Option ℕ) (z : ℤ) → ok_or (option_map (λ n. pos n) o) (Number line) ≡ Ok z
    → (n : ℕ) × (o ≡ Some n) × (pos n ≡ z)
due_taken line None z h = absurd cc
due_taken line (Some n) z h = (n, refl, cc)

-- a number that is read is what is written of it
pub number_taken : (line : ℕ) (text : Text) (z : ℤ) → number_due line text ≡ Ok z
    → (text ≡ signed_decimal z) × IsWritableNumber z
unfolding number_due
number_taken line text z h =
    let due = due_taken line (number_read text) z h in
    let taken = read_taken text due.0 due.1 in
    let small : due.0 < 2 ^ 127 = taken.1 in
    let P : ℤ → Type 0 = λ y. (text ≡ signed_decimal y) × IsWritableNumber y in
    subst P due.2 (taken.0, record { least = omega (arith, ints); narrow = small })

small_due_taken : (most line : ℕ) (o : Option ℕ) (n : ℕ)
    → (ok_or o (Number line) >>= λ m. cond (nat_le m most) (Ok m) (Err (Number line))) ≡ Ok n
    → (o ≡ Some n) × (n ≤ most)
small_due_taken most line None n h = absurd cc
small_due_taken most line (Some m) n h = chosen (nat_le m most) refl h where
  chosen : (b : Bool) → nat_le m most ≡ b → cond b (Ok m) (Err (Number line)) ≡ Ok n → (Some m ≡ Some n) × (n ≤ most)
  chosen true e c = let same : m ≡ n = cc in
      (ap (λ (k : ℕ). Some k) same, subst (λ (k : ℕ). k ≤ most) same (at_most m most e))
  chosen false e c = absurd cc

-- a number with a limit that is read is what is written of it
pub small_taken : (most line : ℕ) (text : Text) (n : ℕ) → small_due most line text ≡ Ok n
    → (text ≡ decimal n) × (n ≤ most)
unfolding small_due
small_taken most line text n h =
    let due = small_due_taken most line (number_read text) n h in
    ((read_taken text n due.0).0, due.1)
