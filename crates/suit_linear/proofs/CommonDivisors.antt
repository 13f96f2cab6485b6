-- The greatest common divisor of a list, number by number (`all_divided`).
use Rattle.std.proofs.Common.{◌≡◌, ℕ, zero, suc, ◌+◌, ◌<◌, ◌≤◌, ◌^◌, List, length, map, All, refl, sym, ap, ap₂, ◌∙◌}
use Rattle.std.proofs.Common.{arith, [], ◌∷◌, inl, inr, set}
use Rattle.std.specs.Prelude.{ℤ, pos, negsuc, ◌≤ℤ◌, int_div, unsigned_abs, FitsSigned}
use Rattle.std.specs.Int.{◌∣◌, w128, cast_signed, cast_unsigned}
use Rattle.std.proofs.lemmas.Bool.{cases_eq}
use Rattle.std.proofs.lemmas.Int.{ints, to_z-of_z}
use Rattle.std.proofs.lemmas.List.Elements.{All-from_get_or}
use Rattle.std.proofs.lemmas.Nat.Gcd.{dvd_trans, dvd_antisymm, le_of_dvd, IsGcd-from_zero, IsGcd-swap, same_from_IsGcd}
use Rattle.std.proofs.Math.Nat.{one-dvd}
use Rattle.suit_num.specs.Divisors.{gcd_of}
use Rattle.suit_num.specs.Narrow.{IsNarrow}
use Rattle.suit_num.proofs.DivisorLaws.{IsGcd-gcd_of}
use Rattle.suit_num.proofs.IntegerLaws.{div_is, mul-one}
use Rattle.std.proofs.lemmas.List.{get_or-set_same, get_or-set_other}
use Rattle.suit_linear.specs.Points.{number_at}
use Rattle.suit_linear.specs.Pivots.{content, primitive, share}
use Rattle.std.proofs.lemmas.List.{length-map}
use Rattle.suit_num.proofs.SignedDivisors.{IsNarrow_from_mul}
use Rattle.suit_linear.proofs.Contents.{content_divides, content_greatest, primitive_is}

-- a magnitude divides the numbers below an index, and each divisor of all numbers divides it
pub record IsDivisorBelow (numbers : List ℤ) (divisor : ℤ) (index : ℕ) : Type 0 where
  pub not_negative : pos 0 ≤ℤ divisor
  pub narrow : IsNarrow divisor
  pub divides : (k : ℕ) → k < index → unsigned_abs divisor ∣ unsigned_abs (number_at numbers k)
  pub greatest : (d : ℕ) → All (λ x. d ∣ unsigned_abs x) numbers → d ∣ unsigned_abs divisor

pub gcd_with_zero : (divisor : ℤ) → pos 0 ≤ℤ divisor → divisor ≡ pos (gcd_of (unsigned_abs divisor) 0)
gcd_with_zero (pos n) h = ap pos (same_from_IsGcd n 0 n (gcd_of n 0) (IsGcd-from_zero n 0 refl) (IsGcd-gcd_of n 0))
gcd_with_zero (negsuc n) h = absurd (omega (arith, ints))

pub first_divisor : (numbers : List ℤ) (likely : ℕ) (divisor : ℤ) → All IsNarrow numbers → likely < length numbers
    → divisor ≡ pos (unsigned_abs (number_at numbers likely)) → IsDivisorBelow numbers divisor 0
first_divisor numbers likely divisor narrow within e = record {
  not_negative = rw e (omega (arith, ints));
  narrow = rw e (narrow likely (pos 0) within);
  divides = λ k p. absurd (omega arith);
  greatest = λ d h. rw e (h likely (pos 0) within);
}

narrow_gcd : (a : ℤ) (b : ℕ) → IsNarrow a → b < 2 ^ 127 → gcd_of (unsigned_abs a) b < 2 ^ 127
narrow_gcd (pos zero) zero p q =
    rw (same_from_IsGcd 0 0 (gcd_of 0 0) 0 (IsGcd-gcd_of 0 0) (IsGcd-from_zero 0 0 refl)) (omega arith)
narrow_gcd (pos zero) (suc b) p q =
    omega (arith, le_of_dvd {m = gcd_of 0 (suc b)} {n = suc b} (omega arith) (IsGcd-gcd_of 0 (suc b)).1)
narrow_gcd (pos (suc n)) b p q =
    omega (arith, le_of_dvd {m = gcd_of (suc n) b} {n = suc n} (omega arith) (IsGcd-gcd_of (suc n) b).0)
narrow_gcd (negsuc n) b p q =
    omega (arith, le_of_dvd {m = gcd_of (suc n) b} {n = suc n} (omega arith) (IsGcd-gcd_of (suc n) b).0)

pub next_divisor : (numbers : List ℤ) (divisor number next : ℤ) (index : ℕ) → All IsNarrow numbers
    → index < length numbers → IsDivisorBelow numbers divisor index → number ≡ number_at numbers index
    → next ≡ pos (gcd_of (unsigned_abs divisor) (unsigned_abs number)) → IsDivisorBelow numbers next (index + 1)
next_divisor numbers divisor number next index narrow within before is e =
    let g = IsGcd-gcd_of (unsigned_abs divisor) (unsigned_abs number) in
    record {
      not_negative = rw e (omega (arith, ints));
      narrow = rw e (narrow_gcd divisor (unsigned_abs number) before.narrow (rw is (narrow index (pos 0) within)));
      divides = λ k p. rw e (elim (cases_eq k index) as
          (λ _. gcd_of (unsigned_abs divisor) (unsigned_abs number) ∣ unsigned_abs (number_at numbers k)) [
            | inl same ↦ rw (same, ← is) g.1
            | inr ne ↦ dvd_trans _ g.0 (before.divides k (omega arith))
          ]);
      greatest = λ d h. rw e (g.2 d (before.greatest d h) (rw is (h index (pos 0) within)));
    }

size_of : (z : ℤ) → pos 0 ≤ℤ z → z ≡ pos (unsigned_abs z)
size_of (pos n) h = refl
size_of (negsuc n) h = absurd (omega (arith, ints))

-- at the end, and as soon as it is 1, it is the greatest common divisor
pub last_divisor : (numbers : List ℤ) (divisor : ℤ) (index : ℕ) → length numbers ≤ index
    → IsDivisorBelow numbers divisor index → divisor ≡ pos (content numbers)
last_divisor numbers divisor index past h =
    size_of divisor h.not_negative
    ∙ ap pos (dvd_antisymm
    (content_greatest numbers (unsigned_abs divisor)
    (All-from_get_or (λ (x : ℤ). unsigned_abs divisor ∣ unsigned_abs x) numbers (pos 0)
    (λ k p. h.divides k (omega arith))))
    (h.greatest (content numbers) (content_divides numbers)))

pub divisor_one : (numbers : List ℤ) (divisor : ℤ) (index : ℕ) → divisor ≡ pos 1 → IsDivisorBelow numbers divisor index
    → divisor ≡ pos (content numbers)
divisor_one numbers divisor index e h =
    e ∙ ap pos (dvd_antisymm (one-dvd (content numbers))
    (rw e at (h.greatest (content numbers) (content_divides numbers))))

-- ---- the division

-- the list `now` is divided below an index, and is as it was from there on
pub record IsDividedBelow (was : List ℤ) (divisor : ℤ) (now : List ℤ) (index : ℕ) : Type 0 where
  pub done : (k : ℕ) → k < index → number_at now k ≡ int_div (number_at was k) divisor
  pub kept : (k : ℕ) → index ≤ k → number_at now k ≡ number_at was k

pub none_divided : (was : List ℤ) (divisor : ℤ) → IsDividedBelow was divisor was 0
none_divided was divisor = record { done = λ k p. absurd (omega arith); kept = λ k p. refl }

pub one_divided : (was : List ℤ) (divisor : ℤ) (now : List ℤ) (index : ℕ) (number : ℤ) → index < length now
    → IsDividedBelow was divisor now index → number ≡ int_div (number_at now index) divisor
    → IsDividedBelow was divisor (set now index number) (index + 1)
one_divided was divisor now index number less before is = record {
  done = λ k p. elim (cases_eq k index) as (λ _. number_at (set now index number) k
      ≡ int_div (number_at was k) divisor) [
        | inl e ↦ rw e (get_or-set_same now index number (pos 0) less ∙ is
            ∙ ap (λ (z : ℤ). int_div z divisor) (before.kept index (omega arith)))
        | inr ne ↦ get_or-set_other now index k number (pos 0) ne ∙ before.done k (omega arith)
      ];
  kept = λ k p. get_or-set_other now index k number (pos 0) (omega arith) ∙ before.kept k (omega arith);
}

divided_by_indices : (was now : List ℤ) (divisor : ℤ) → length now ≡ length was
    → ((k : ℕ) → k < length was → number_at now k ≡ int_div (number_at was k) divisor)
    → now ≡ map (λ x. int_div x divisor) was
divided_by_indices [] [] divisor e h = refl
divided_by_indices [] (y ∷ ys) divisor e h = absurd (omega (arith, e))
divided_by_indices (x ∷ xs) [] divisor e h = absurd (omega (arith, e))
divided_by_indices (x ∷ xs) (y ∷ ys) divisor e h =
    let rest : ys ≡ map (λ x. int_div x divisor) xs =
    divided_by_indices xs ys divisor (omega (arith, e)) (λ k p. h (suc k) (omega arith)) in
    let here : y ≡ int_div x divisor = h 0 (omega arith) in
    ap₂ (λ (z : ℤ) (zs : List ℤ). z ∷ zs) here rest

pub all_divided : (was : List ℤ) (divisor : ℤ) (now : List ℤ) (index : ℕ) → length now ≡ length was → length was ≤ index
    → IsDividedBelow was divisor now index → divisor ≡ pos (content was) → now ≡ primitive was
all_divided was divisor now index e past h is =
    divided_by_indices was now divisor e (λ k p. h.done k (omega arith)) ∙ ap (λ (d : ℤ). map (λ x. int_div x d) was) is

div_one : (x : ℤ) → int_div x (pos 1) ≡ x
div_one x = div_is x (pos 1) x (omega (arith, ints)) (mul-one x)

map_one : (xs : List ℤ) → xs ≡ map (λ x. int_div x (pos 1)) xs
map_one [] = refl
map_one (x ∷ xs) = ap₂ (λ (z : ℤ) (zs : List ℤ). z ∷ zs) (sym (div_one x)) (map_one xs)

-- numbers that share no divisor stay as they are
pub primitive_same : (numbers : List ℤ) (divisor : ℤ) → divisor ≡ pos 1 → divisor ≡ pos (content numbers)
    → numbers ≡ primitive numbers
primitive_same numbers divisor e is = map_one numbers ∙ ap (λ (d : ℤ). map (λ x. int_div x d) numbers) (sym e ∙ is)

-- ---- tests of the bits

pub zero_bits : (z : ℤ) → FitsSigned w128 z → cast_unsigned w128 z ≡ 0 → z ≡ pos 0
zero_bits z fits e = sym (to_z-of_z w128 z fits) ∙ ap (cast_signed w128) e

pub one_bits : (z : ℤ) → FitsSigned w128 z → cast_unsigned w128 z ≡ 1 → z ≡ pos 1
one_bits z fits e = sym (to_z-of_z w128 z fits) ∙ ap (cast_signed w128) e

length-primitive : (numbers : List ℤ) → length (primitive numbers) ≡ length numbers
length-primitive numbers = length-map numbers (λ x. int_div x (pos (content numbers)))

-- a division makes no number wider
pub narrow_primitive : (numbers : List ℤ) → 0 < content numbers → All IsNarrow numbers
    → All IsNarrow (primitive numbers)
narrow_primitive numbers some narrow =
    All-from_get_or IsNarrow (primitive numbers) (pos 0) (λ k p.
    IsNarrow_from_mul _ (pos (content numbers)) _ (omega (arith, ints, some)) (primitive_is numbers k some)
    (narrow k (pos 0) (omega (arith, length-primitive numbers))))

-- ---- two numbers by their greatest common divisor

gcd_of_swap : (a b : ℕ) → gcd_of a b ≡ gcd_of b a
gcd_of_swap a b = same_from_IsGcd a b (gcd_of a b) (gcd_of b a) (IsGcd-gcd_of a b)
    (IsGcd-swap b a (gcd_of b a) (IsGcd-gcd_of b a))

-- what `shares` divides by
pub shares_are : (pivot entry divisor : ℤ) → divisor ≡ pos (gcd_of (unsigned_abs pivot) (unsigned_abs entry))
    → (int_div pivot divisor ≡ share pivot entry) × (int_div entry divisor ≡ share entry pivot)
shares_are pivot entry divisor e = (
  ap (int_div pivot) e,
  ap (int_div entry) (e ∙ ap pos (gcd_of_swap (unsigned_abs pivot) (unsigned_abs entry))),
)
