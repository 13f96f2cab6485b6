-- The greatest common divisor of numbers, number by number (`content_more`, `quotient_more`).
use Rattle.std.proofs.Common.{◌≡◌, ◌≢◌, inl, inr, ℕ, zero, suc, ◌+◌, ◌<◌, ◌≤◌, ◌%◌, ◌^◌, nat_lt}
use Rattle.std.proofs.Common.{true, false, List, length, All, refl}
use Rattle.std.proofs.Common.{sym, ap, ◌∙◌, arith, subst}
use Rattle.std.specs.Prelude.{ℤ, pos, unsigned_abs, ◌*ℤ◌, ◌≤ℤ◌, int_div, negsuc, set}
use Rattle.std.specs.Int.{◌∣◌}
use Rattle.std.proofs.lemmas.Bool.{cases_eq, cases_lt, cond-true, cond-false}
use Rattle.std.proofs.lemmas.Bool.Decides.{nat_tests}
use Rattle.std.proofs.lemmas.List.Elements.{All-from_get_or}
use Rattle.std.proofs.lemmas.Nat.Gcd.{dvd_trans, dvd_antisymm, dvd-zero, IsGcd-from_zero}
use Rattle.std.proofs.lemmas.Nat.Gcd.{IsGcd-from_mod, same_from_IsGcd}
use Rattle.std.proofs.Math.Nat.{one-dvd, eq-zero_of_zero-dvd}
use Rattle.std.specs.Prelude.{FitsSigned}
use Rattle.std.specs.Int.{w64}
use Rattle.std.proofs.lemmas.Int.{ints, fits_signed_from_abs}
use Rattle.std.proofs.lemmas.List.{get_or_past}
use Rattle.std.proofs.Math.IntN.{*ℤ_comm, zero-*ℤ}
use Rattle.suit_num.proofs.IntegerLaws.{div-mul, mul-one}
use Rattle.suit_linear_fast.proofs.ObjectiveSteps.{IsShrunkBelow, shrunk_more}
use Rattle.suit_num.specs.Divisors.{gcd_of}
use Rattle.suit_num.proofs.DivisorLaws.{IsGcd-gcd_of}
use Rattle.suit_linear.specs.Points.{number_at}
use Rattle.suit_linear.specs.Pivots.{content}
use Rattle.suit_linear_fast.specs.Replays.{short_content, Knows, IsRow, IsDividedRow}
use Rattle.suit_linear_fast.specs.declared.past_pivots.PastPivots.{PastPivots}
use Rattle.suit_linear.proofs.Contents.{content_divides, content_greatest}

-- ---- two numbers

-- a step of Euclid
pub gcd_step : (x y : ℕ) → y ≢ 0 → gcd_of y (x % y) ≡ gcd_of x y
gcd_step x y some =
    same_from_IsGcd x y (gcd_of y (x % y)) (gcd_of x y)
    (IsGcd-from_mod x y (gcd_of y (x % y)) (IsGcd-gcd_of y (x % y))) (IsGcd-gcd_of x y)

pub gcd_end : (x y : ℕ) → y ≡ 0 → x ≡ gcd_of x y
gcd_end x y none = same_from_IsGcd x y x (gcd_of x y) (IsGcd-from_zero x y none) (IsGcd-gcd_of x y)

-- ---- many numbers

-- a number divides the numbers below an index, and each divisor of all numbers divides it
pub record IsContentBelow (numbers : List ℤ) (divisor index : ℕ) : Type 0 where
  pub divides : (k : ℕ) → k < index → divisor ∣ unsigned_abs (number_at numbers k)
  pub greatest : (d : ℕ) → All (λ x. d ∣ unsigned_abs x) numbers → d ∣ divisor

pub no_content : (numbers : List ℤ) → IsContentBelow numbers 0 0
no_content numbers = record {
  divides = λ k less. absurd (omega arith);
  greatest = λ d h. dvd-zero d;
}

-- a number that is 0 is divided by each
pub content_same : (numbers : List ℤ) (divisor index : ℕ) → number_at numbers index ≡ pos 0
    → IsContentBelow numbers divisor index → IsContentBelow numbers divisor (index + 1)
content_same numbers divisor index none h = record {
  divides = λ k less. elim (cases_eq k index) as (λ _. divisor ∣ unsigned_abs (number_at numbers k)) [
    | inl same ↦ rw (same, none) (dvd-zero divisor)
    | inr differs ↦ h.divides k (omega arith)
  ];
  greatest = h.greatest;
}

pub content_more : (numbers : List ℤ) (divisor next index : ℕ) → index < length numbers
    → next ≡ gcd_of divisor (unsigned_abs (number_at numbers index)) → IsContentBelow numbers divisor index
    → IsContentBelow numbers next (index + 1)
content_more numbers divisor next index within e h =
    let g = IsGcd-gcd_of divisor (unsigned_abs (number_at numbers index)) in
    record {
      divides = λ k less. rw e (elim (cases_eq k index) as
          (λ _. gcd_of divisor (unsigned_abs (number_at numbers index)) ∣ unsigned_abs (number_at numbers k)) [
            | inl same ↦ rw same g.1
            | inr differs ↦ dvd_trans _ g.0 (h.divides k (omega arith))
          ]);
      greatest = λ d all. rw e (g.2 d (h.greatest d all) (all index (pos 0) within));
    }

pub all_content : (numbers : List ℤ) (divisor index : ℕ) → length numbers ≤ index
    → IsContentBelow numbers divisor index → divisor ≡ content numbers
all_content numbers divisor index past h =
    dvd_antisymm
    (content_greatest numbers divisor
    (All-from_get_or (λ (x : ℤ). divisor ∣ unsigned_abs x) numbers (pos 0) (λ k p. h.divides k (omega arith))))
    (h.greatest (content numbers) (content_divides numbers))

-- as soon as it is 1, no number is left to be looked at
pub content_one : (numbers : List ℤ) (divisor index : ℕ) → divisor ≡ 1 → IsContentBelow numbers divisor index
    → divisor ≡ content numbers
content_one numbers divisor index e h =
    e ∙ dvd_antisymm (one-dvd (content numbers))
    (rw e at (h.greatest (content numbers) (content_divides numbers)))

-- ---- what fits 64 bits

pub short_here : (numbers : List ℤ) (divisor : ℕ) → divisor ≡ content numbers → divisor < 2 ^ 63
    → pos divisor ≡ short_content numbers
short_here numbers divisor e less =
    let small : nat_lt (content numbers) (2 ^ 63) ≡ true = grind (arith, nat_tests) in
    ap pos e ∙ sym (cond-true (nat_lt (content numbers) (2 ^ 63)) (pos (content numbers)) (pos 1) small)

pub short_past : (numbers : List ℤ) (divisor : ℕ) → divisor ≡ content numbers → 2 ^ 63 ≤ divisor
    → pos 1 ≡ short_content numbers
short_past numbers divisor e past =
    let large : nat_lt (content numbers) (2 ^ 63) ≡ false = grind (arith, nat_tests) in
    sym (cond-false (nat_lt (content numbers) (2 ^ 63)) (pos (content numbers)) (pos 1) large)

pub short_all : (numbers : List ℤ) (divisor index : ℕ) → length numbers ≤ index → IsContentBelow numbers divisor index
    → FitsSigned w64 (pos divisor) → pos divisor ≡ short_content numbers
short_all numbers divisor index past h fits =
    short_here numbers divisor (all_content numbers divisor index past h) fits.sfits

pub long_all : (numbers : List ℤ) (divisor index : ℕ) → length numbers ≤ index → IsContentBelow numbers divisor index
    → (FitsSigned w64 (pos divisor) → ⊥) → pos 1 ≡ short_content numbers
long_all numbers divisor index past h unfit =
    elim (cases_lt divisor (2 ^ 63)) [
      | inl less ↦ absurd (unfit (fits_signed_from_abs w64 (pos divisor) less))
      | inr over ↦ short_past numbers divisor (all_content numbers divisor index past h) over
    ]

-- ---- the division by it

one_content : (numbers : List ℤ) (index : ℕ)
    → unsigned_abs (short_content numbers) ∣ unsigned_abs (number_at numbers index)
one_content numbers index =
    elim (cases_lt (content numbers) (2 ^ 63)) [
      | inl less ↦ subst (λ (d : ℤ). unsigned_abs d ∣ unsigned_abs (number_at numbers index))
          (short_here numbers (content numbers) refl less) (divides_at numbers index)
      | inr over ↦ subst (λ (d : ℤ). unsigned_abs d ∣ unsigned_abs (number_at numbers index))
          (short_past numbers (content numbers) refl over) (one-dvd (unsigned_abs (number_at numbers index)))
    ]
  where
    divides_at : (numbers : List ℤ) (index : ℕ) → content numbers ∣ unsigned_abs (number_at numbers index)
    divides_at numbers index =
        elim (cases_lt index (length numbers)) [
          | inl less ↦ content_divides numbers index (pos 0) less
          | inr over ↦ rw (get_or_past numbers index (pos 0) over) (dvd-zero (content numbers))
        ]

-- a number that is divided by what all are, times that, is the number
pub quotient_is : (numbers : List ℤ) (divisor : ℤ) (index : ℕ) → divisor ≡ short_content numbers
    → int_div (number_at numbers index) divisor *ℤ divisor ≡ number_at numbers index
quotient_is numbers divisor index e =
    div-mul (number_at numbers index) divisor (rw e (one_content numbers index))

pub quotient_more : (before : List ℤ) (divisor : ℤ) (count : ℕ) (now : List ℤ) → divisor ≡ short_content before
    → count < length now → IsShrunkBelow divisor before count now
    → IsShrunkBelow divisor before (count + 1) (set now count (int_div (number_at now count) divisor))
quotient_more before divisor count now e less h =
    let same : number_at now count ≡ number_at before count = h.behind count (omega arith) in
    shrunk_more divisor before count now (int_div (number_at now count) divisor) less h
    (ap (λ (z : ℤ). int_div z divisor *ℤ divisor) same ∙ quotient_is before divisor count e ∙ sym same)

-- times 1, or 0 times 0
times_low : (a d : ℤ) → pos 0 ≤ℤ d → d ≤ℤ pos 1 → unsigned_abs d ∣ unsigned_abs a → a *ℤ d ≡ a
times_low a (pos zero) some low h = *ℤ_comm a (pos 0) ∙ zero-*ℤ a ∙ sym (zero_size a (eq-zero_of_zero-dvd h))
  where
    zero_size : (a : ℤ) → unsigned_abs a ≡ 0 → a ≡ pos 0
    zero_size (pos n) e = ap pos e
    zero_size (negsuc n) e = absurd (omega arith)
times_low a (pos (suc zero)) some low h = mul-one a
times_low a (pos (suc (suc n))) some low h = absurd (omega (arith, ints))
times_low a (negsuc n) some low h = absurd (omega (arith, ints))

not_negative : (numbers : List ℤ) → pos 0 ≤ℤ short_content numbers
not_negative numbers =
    elim (cases_lt (content numbers) (2 ^ 63)) [
      | inl less ↦ rw (← short_here numbers (content numbers) refl less) (omega (arith, ints))
      | inr over ↦ rw (← short_past numbers (content numbers) refl over) (omega (arith, ints))
    ]

-- numbers that have no common divisor but 1, or are all 0, stay
pub none_divided : (past : PastPivots) (row : ℕ) (before : List ℤ) (divisor : ℤ)
    → (Knows past row → row < length before → IsRow past row before) → divisor ≡ short_content before
    → divisor ≤ℤ pos 1 → IsDividedRow past row divisor before
none_divided past row before divisor told e low = record {
  guess = before;
  told = told;
  divisor_is = e;
  divided = record {
    count = refl;
    numbers = λ index.
        times_low (number_at before index) divisor (rw e (not_negative before)) low (rw e (one_content before index));
  };
}
