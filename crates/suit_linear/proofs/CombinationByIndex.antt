-- Combined rows index by index (`all_combined`).
use Rattle.std.proofs.Common.{◌≡◌, ◌≢◌, ℕ, zero, suc, ◌+◌, ◌<◌, ◌≤◌, set, inl, inr, Bool, true, false, ◌&&◌, List, []}
use Rattle.std.proofs.Common.{◌∷◌, ◌++◌, length, refl, sym, ap, ◌∙◌, arith, IsTrue, All, Option, Some, None}
use Rattle.std.proofs.lemmas.Bool.{cases_eq}
use Rattle.std.proofs.lemmas.Bool.Decides.{nat_tests}
use Rattle.std.proofs.lemmas.List.{get_or_default, get_or-set_same, get_or-set_other, set-get_or}
use Rattle.std.proofs.lemmas.Int.{ints}
use Rattle.suit_num.specs.Narrow.{IsNarrow}
use Rattle.std.specs.Prelude.{ℤ, pos, ◌*ℤ◌, ◌-ℤ◌, SomeIff}
use Rattle.std.specs.List.{list_all}
use Rattle.suit_linear.specs.Points.{number_at}
use Rattle.suit_linear.specs.Pivots.{combined, combining, combining_at, is_narrow}

-- the numbers that one index makes are narrow
abbrev pub Combines : ℤ → ℤ → ℤ → ℤ → Type 0
Combines own x other y = IsTrue (list_all is_narrow (combining_at own x other y))

pub narrow_test : (z : ℤ) → IsNarrow z → is_narrow z ≡ true
narrow_test z h = grind (arith, nat_tests)

narrow_from_test : (z : ℤ) → is_narrow z ≡ true → IsNarrow z
narrow_from_test z h = grind (arith, nat_tests)

pub both_true : (a b : Bool) → a ≡ true → b ≡ true → a && b ≡ true
both_true true true p q = refl
both_true true false p q = q
both_true false b p q = p

pub first_true : (a b : Bool) → a && b ≡ true → a ≡ true
first_true true b p = refl
first_true false b p = p

pub second_true : (a b : Bool) → a && b ≡ true → b ≡ true
second_true true b p = p
second_true false true p = refl
second_true false false p = p

three_true : (a b c : Bool) → a ≡ true → b ≡ true → c ≡ true → a && (b && (c && true)) ≡ true
three_true true true true p q r = refl
three_true true true false p q r = r
three_true true false c p q r = q
three_true false b c p q r = p

third_true : (a b c : Bool) → a && (b && (c && true)) ≡ true → c ≡ true
third_true true true true p = refl
third_true true true false p = p
third_true true false c p = absurd (cc)
third_true false b c p = absurd (cc)

pub combines : (own x other y : ℤ) → IsNarrow (own *ℤ x) → IsNarrow (other *ℤ y) → IsNarrow (own *ℤ x -ℤ other *ℤ y)
    → Combines own x other y
combines own x other y p q r =
    three_true (is_narrow (own *ℤ x)) (is_narrow (other *ℤ y)) (is_narrow (own *ℤ x -ℤ other *ℤ y))
    (narrow_test (own *ℤ x) p) (narrow_test (other *ℤ y) q) (narrow_test (own *ℤ x -ℤ other *ℤ y) r)

pub difference_narrow : (own x other y : ℤ) → Combines own x other y → IsNarrow (own *ℤ x -ℤ other *ℤ y)
difference_narrow own x other y h =
    narrow_from_test (own *ℤ x -ℤ other *ℤ y)
    (third_true (is_narrow (own *ℤ x)) (is_narrow (other *ℤ y)) (is_narrow (own *ℤ x -ℤ other *ℤ y)) h)

-- what `combine_numbers` makes of two products that fit
pub combine_is : (own x other y p q : ℤ) (answer : Option ℤ) → IsNarrow (own *ℤ x) × (p ≡ own *ℤ x)
    → IsNarrow (other *ℤ y) × (q ≡ other *ℤ y) → SomeIff answer (IsNarrow (p -ℤ q)) (p -ℤ q)
    → SomeIff answer (Combines own x other y) (own *ℤ x -ℤ other *ℤ y)
combine_is own x other y p q answer first second h = by_answer answer (rw (first.1, second.1) at h)
  where
    by_answer : (answer : Option ℤ) → SomeIff answer (IsNarrow (own *ℤ x -ℤ other *ℤ y)) (own *ℤ x -ℤ other *ℤ y)
        → SomeIff answer (Combines own x other y) (own *ℤ x -ℤ other *ℤ y)
    by_answer None h = λ all. h (difference_narrow own x other y all)
    by_answer (Some v) h = (combines own x other y first.0 second.0 h.0, h.1)

-- ---- from indices to lists

pub combined_by_indices : (own : ℤ) (xs : List ℤ) (other : ℤ) (ys zs : List ℤ) → length xs ≡ length ys
    → length zs ≡ length xs
    → ((k : ℕ) → k < length xs → number_at zs k ≡ own *ℤ number_at xs k -ℤ other *ℤ number_at ys k)
    → zs ≡ combined own xs other ys
unfolding combined
combined_by_indices own [] other [] [] e f h = refl
combined_by_indices own [] other [] (z ∷ zs) e f h = absurd (omega (arith, f))
combined_by_indices own [] other (y ∷ ys) zs e f h = absurd (omega (arith, e))
combined_by_indices own (x ∷ xs) other [] zs e f h = absurd (omega (arith, e))
combined_by_indices own (x ∷ xs) other (y ∷ ys) [] e f h = absurd (omega (arith, f))
combined_by_indices own (x ∷ xs) other (y ∷ ys) (z ∷ zs) e f h =
    let rest : zs ≡ combined own xs other ys =
    combined_by_indices own xs other ys zs (omega (arith, e)) (omega (arith, f))
    (λ k p. h (suc k) (omega arith)) in
    let here : z ≡ own *ℤ x -ℤ other *ℤ y = h 0 (omega arith) in
    cc

pub test_append : (xs ys : List ℤ) → list_all is_narrow (xs ++ ys) ≡ list_all is_narrow xs && list_all is_narrow ys
test_append [] ys = refl
test_append (x ∷ xs) ys = ap (λ (b : Bool). is_narrow x && b) (test_append xs ys)
    ∙ regroup (is_narrow x) (list_all is_narrow xs) (list_all is_narrow ys)
  where
    regroup : (a b c : Bool) → a && (b && c) ≡ a && b && c
    regroup true b c = refl
    regroup false b c = refl

pub combining_by_indices : (own : ℤ) (xs : List ℤ) (other : ℤ) (ys : List ℤ) → length xs ≡ length ys
    → ((k : ℕ) → k < length xs → Combines own (number_at xs k) other (number_at ys k))
    → IsTrue (list_all is_narrow (combining own xs other ys))
unfolding combining
combining_by_indices own [] other [] e h = refl
combining_by_indices own [] other (y ∷ ys) e h = absurd (omega (arith, e))
combining_by_indices own (x ∷ xs) other [] e h = absurd (omega (arith, e))
combining_by_indices own (x ∷ xs) other (y ∷ ys) e h =
    test_append (combining_at own x other y) (combining own xs other ys)
    ∙ both_true _ _ (h 0 (omega arith))
    (combining_by_indices own xs other ys (omega (arith, e)) (λ k p. h (suc k) (omega arith)))

pub index_combines : (own : ℤ) (xs : List ℤ) (other : ℤ) (ys : List ℤ) (k : ℕ) → length xs ≡ length ys → k < length xs
    → IsTrue (list_all is_narrow (combining own xs other ys)) → Combines own (number_at xs k) other (number_at ys k)
unfolding combining
index_combines own [] other ys k e less h = absurd (omega arith)
index_combines own (x ∷ xs) other [] k e less h = absurd (omega (arith, e))
index_combines own (x ∷ xs) other (y ∷ ys) zero e less h =
    first_true _ _ (sym (test_append (combining_at own x other y) (combining own xs other ys)) ∙ h)
index_combines own (x ∷ xs) other (y ∷ ys) (suc k) e less h =
    index_combines own xs other ys k (omega (arith, e)) (omega arith)
    (second_true (list_all is_narrow (combining_at own x other y)) _
    (sym (test_append (combining_at own x other y) (combining own xs other ys)) ∙ h))

-- ---- one more index of a row

by_eq : {P : Type 0} (a b : ℕ) → (a ≡ b → P) → (a ≢ b → P) → P
by_eq a b same other = elim (cases_eq a b) [ inl e ↦ same e | inr ne ↦ other ne ]

-- the row `now` is combined from the row `was` below an index, and is as it was from there on
pub record IsCombinedBelow (own : ℤ) (was : List ℤ) (other : ℤ) (leaver now : List ℤ) (index : ℕ) : Type 0 where
  pub done : (k : ℕ) → k < index → number_at now k ≡ own *ℤ number_at was k -ℤ other *ℤ number_at leaver k
  pub kept : (k : ℕ) → index ≤ k → number_at now k ≡ number_at was k
  pub fits : (k : ℕ) → k < index → Combines own (number_at was k) other (number_at leaver k)

pub none_combined : (own : ℤ) (was : List ℤ) (other : ℤ) (leaver : List ℤ) → IsCombinedBelow own was other leaver was 0
none_combined own was other leaver = record {
  done = λ k less. absurd (omega arith);
  kept = λ k low. refl;
  fits = λ k less. absurd (omega arith);
}

pub one_combined : (own : ℤ) (was : List ℤ) (other : ℤ) (leaver now : List ℤ) (index : ℕ) (number x y : ℤ)
    → index < length now → IsCombinedBelow own was other leaver now index → x ≡ number_at now index
    → y ≡ number_at leaver index → Combines own x other y × (number ≡ own *ℤ x -ℤ other *ℤ y)
    → IsCombinedBelow own was other leaver (set now index number) (index + 1)
one_combined own was other leaver now index number x y less before is_x is_y h =
    let same : number_at now index ≡ number_at was index = before.kept index (omega arith) in
    let is_was : x ≡ number_at was index = is_x ∙ same in
    record {
      done = λ k p. by_eq k index
          (λ e. rw e (get_or-set_same now index number (pos 0) less ∙ (rw (is_was, is_y) at h).1))
          (λ ne. get_or-set_other now index k number (pos 0) ne ∙ before.done k (omega arith));
      kept = λ k p. get_or-set_other now index k number (pos 0) (omega arith) ∙ before.kept k (omega arith);
      fits = λ k p. by_eq k index (λ e. rw e (rw (is_was, is_y) at h).0) (λ ne. before.fits k (omega arith));
    }

-- what `combine` says after the last index, and where an index does not fit
pub all_combined : (own : ℤ) (was : List ℤ) (other : ℤ) (leaver now : List ℤ) (index : ℕ) → length was ≡ length leaver
    → length now ≡ length was → length was ≤ index → IsCombinedBelow own was other leaver now index
    → (now ≡ combined own was other leaver) × IsTrue (list_all is_narrow (combining own was other leaver))
all_combined own was other leaver now index e f past h = (
  combined_by_indices own was other leaver now e f (λ k p. h.done k (omega arith)),
  combining_by_indices own was other leaver e (λ k p. h.fits k (omega arith)),
)

pub not_combining : (own : ℤ) (was : List ℤ) (other : ℤ) (leaver now : List ℤ) (index : ℕ) (x y : ℤ)
    → length was ≡ length leaver → index < length was → IsCombinedBelow own was other leaver now index
    → x ≡ number_at now index → y ≡ number_at leaver index → ¬ Combines own x other y
    → ¬ IsTrue (list_all is_narrow (combining own was other leaver))
not_combining own was other leaver now index x y e less before is_x is_y refused h =
    let is_was : x ≡ number_at was index = is_x ∙ before.kept index (omega arith) in
    refused (rw (is_was, is_y) (index_combines own was other leaver index e less h))

-- ---- a number that stays as it is

pub one_first : (x : ℤ) → pos 1 *ℤ x ≡ x
one_first x = grind (arith, ints)

pub zero_last : (x : ℤ) → x *ℤ pos 0 ≡ pos 0
zero_last x = grind (arith, ints)

less_zero : (x : ℤ) → x -ℤ pos 0 ≡ x
less_zero x = grind (arith, ints)

kept_number : (own x other y : ℤ) → IsNarrow x → own *ℤ x ≡ x → y ≡ pos 0 → Combines own x other y
    × (x ≡ own *ℤ x -ℤ other *ℤ y)
kept_number own x other y narrow same none =
    let b : other *ℤ y ≡ pos 0 = rw none (zero_last other) in
    let c : x -ℤ pos 0 ≡ x = less_zero x in
    let nothing : IsNarrow (pos 0) = omega arith in
    let some : Combines own x other y × (x ≡ own *ℤ x -ℤ other *ℤ y) =
    combine_is own x other y x (pos 0) (Some x) (rw same narrow, sym same) (rw b nothing, sym b) (rw c narrow, sym c) in
    some

-- a row is combined below the next index, too, where the number at this one stays
pub kept_index : (own : ℤ) (was : List ℤ) (other : ℤ) (leaver now : List ℤ) (index : ℕ) (x y : ℤ) → index < length now
    → length now ≡ length was → All IsNarrow was → x ≡ number_at now index → y ≡ number_at leaver index → own *ℤ x ≡ x
    → y ≡ pos 0 → IsCombinedBelow own was other leaver now index → IsCombinedBelow own was other leaver now (index + 1)
kept_index own was other leaver now index x y less len narrow is_x is_y stays none before =
    let same : number_at now index ≡ number_at was index = before.kept index (omega arith) in
    let x_narrow : IsNarrow x = rw (is_x, same) (narrow index (pos 0) (omega (arith, len, less))) in
    rw (set-get_or now index (pos 0)) at
    (one_combined own was other leaver now index (number_at now index) (number_at now index) y less before refl is_y
    (rw (sym is_x) (kept_number own x other y x_narrow stays none)))

pub narrow_combined : (own other : ℤ) (was leaver now : List ℤ) (index : ℕ) → length now ≡ length was
    → length was ≤ index → IsCombinedBelow own was other leaver now index → All IsNarrow now
narrow_combined own other was leaver now index len past h =
    λ k d less. rw (get_or_default now k d (pos 0) less)
    (rw (h.done k (omega (arith, len, less, past)))
    (difference_narrow own (number_at was k) other (number_at leaver k)
    (h.fits k (omega (arith, len, less, past)))))
