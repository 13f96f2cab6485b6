-- The objective row as it is cleared, and as it is divided, number after number (`combined_more`, `shrunk_more`).
use Rattle.std.proofs.Common.{◌≡◌, inl, inr, ℕ, suc, ◌+◌, ◌<◌, ◌≤◌, List, ◌∷◌, length, All, refl, sym, ap, ◌∙◌}
use Rattle.std.proofs.Common.{subst, arith}
use Rattle.std.specs.Prelude.{ℤ, pos, ◌-ℤ◌, ◌*ℤ◌, ◌<ℤ◌, set}
use Rattle.std.proofs.lemmas.Int.{ints}
use Rattle.std.proofs.lemmas.Bool.{cases_eq, cases_lt}
use Rattle.std.proofs.lemmas.List.{length-set, get_or-set_same, get_or-set_other, get_or_past, get_or_default}
use Rattle.std.proofs.Math.IntN.{zero-*ℤ}
use Rattle.suit_num.proofs.IntegerLaws.{mul-one}
use Rattle.suit_linear.specs.Points.{number_at}
use Rattle.suit_linear.specs.Multiples.{IsSmall}
use Rattle.suit_linear.proofs.Signs.{nothing_combined}
use Rattle.suit_linear_fast.specs.States.{IsCombined, IsShrunk}

-- ---- cleared

pub record IsCombinedBelow (own times : ℤ) (objective numbers : List ℤ) (count : ℕ) (now : List ℤ) : Type 0 where
  pub same : length now ≡ length objective
  pub below : (index : ℕ) → index < count → number_at now index
      ≡ own *ℤ number_at objective index -ℤ times *ℤ number_at (pos 0 ∷ numbers) index
  pub behind : (index : ℕ) → count ≤ index → number_at now index ≡ number_at objective index
  pub small : (index : ℕ) → IsSmall (number_at now index)

pub none_combined : (own times : ℤ) (objective numbers : List ℤ) → All IsSmall objective
    → IsCombinedBelow own times objective numbers 0 objective
none_combined own times objective numbers h = record {
  same = refl;
  below = λ index less. absurd (omega arith);
  behind = λ index past. refl;
  small = λ index.
      elim (cases_lt index (length objective)) [
        | inl less ↦ h index (pos 0) less
        | inr past ↦ subst IsSmall (sym (get_or_past objective index (pos 0) past)) nothing
      ];
}
  where
    nothing : IsSmall (pos 0)
    nothing = omega arith

pub combined_more : (own times : ℤ) (objective numbers : List ℤ) (count : ℕ) (now : List ℤ) (number taken : ℤ)
    → count < length now → IsCombinedBelow own times objective numbers count now
    → taken ≡ number_at (pos 0 ∷ numbers) count → number ≡ own *ℤ number_at now count -ℤ times *ℤ taken
    → IsSmall number → IsCombinedBelow own times objective numbers (count + 1) (set now count number)
combined_more own times objective numbers count now number taken less h e is small = record {
  same = length-set now count number ∙ h.same;
  below = λ index low.
      elim (cases_eq index count) [
        | inl here ↦
            ap (λ (n : ℕ). number_at (set now count number) n) here ∙ get_or-set_same now count number (pos 0) less ∙ is
            ∙ ap (λ (z : ℤ). own *ℤ z -ℤ times *ℤ taken) (h.behind count (omega arith))
            ∙ ap (λ (z : ℤ). own *ℤ number_at objective count -ℤ times *ℤ z) e
            ∙ ap (λ (n : ℕ). own *ℤ number_at objective n -ℤ times *ℤ number_at (pos 0 ∷ numbers) n) (sym here)
        | inr differs ↦ get_or-set_other now count index number (pos 0) differs ∙ h.below index (omega arith)
      ];
  behind = λ index past.
      get_or-set_other now count index number (pos 0) (λ (same : index ≡ count). absurd (omega arith))
      ∙ h.behind index (omega arith);
  small = λ index.
      elim (cases_eq index count) [
        | inl here ↦ subst IsSmall (sym (ap (λ (n : ℕ). number_at (set now count number) n) here
            ∙ get_or-set_same now count number (pos 0) less)) small
        | inr differs ↦ subst IsSmall (sym (get_or-set_other now count index number (pos 0) differs)) (h.small index)
      ];
}

pub combined_idle : (own times : ℤ) (objective numbers : List ℤ) (count : ℕ) (now : List ℤ) (taken : ℤ)
    → count < length now → IsCombinedBelow own times objective numbers count now
    → taken ≡ number_at (pos 0 ∷ numbers) count → own *ℤ number_at now count -ℤ times *ℤ taken ≡ number_at now count
    → IsCombinedBelow own times objective numbers (count + 1) now
combined_idle own times objective numbers count now taken less h e is = record {
  same = h.same;
  below = λ index low.
      elim (cases_eq index count) [
        | inl here ↦
            ap (λ (n : ℕ). number_at now n) here ∙ sym is
            ∙ ap (λ (z : ℤ). own *ℤ z -ℤ times *ℤ taken) (h.behind count (omega arith))
            ∙ ap (λ (z : ℤ). own *ℤ number_at objective count -ℤ times *ℤ z) e
            ∙ ap (λ (n : ℕ). own *ℤ number_at objective n -ℤ times *ℤ number_at (pos 0 ∷ numbers) n) (sym here)
        | inr differs ↦ h.below index (omega arith)
      ];
  behind = λ index past. h.behind index (omega arith);
  small = h.small;
}

pub all_combined : (own times : ℤ) (objective numbers : List ℤ) (count : ℕ) (now : List ℤ) → length objective ≤ count
    → length objective ≡ suc (length numbers) → IsCombinedBelow own times objective numbers count now
    → IsCombined own times objective numbers now
all_combined own times objective numbers count now past width h = record {
  count = h.same;
  changed = λ index.
      elim (cases_lt index (length objective)) [
        | inl less ↦ h.below index (omega arith)
        | inr over ↦
            let same = h.same in
            get_or_past now index (pos 0) (omega arith)
            ∙ sym (ap (λ (z : ℤ). own *ℤ z -ℤ times *ℤ number_at (pos 0 ∷ numbers) index)
            (get_or_past objective index (pos 0) over)
            ∙ ap (λ (z : ℤ). own *ℤ pos 0 -ℤ times *ℤ z)
            (get_or_past (pos 0 ∷ numbers) index (pos 0) (omega arith))
            ∙ nothing_combined own times)
      ];
  small = λ index other less. subst IsSmall (get_or_default now index (pos 0) other less) (h.small index);
}

-- a number stays where nothing is taken and its factor is 1, or it is 0
pub idle_first : (own number taken : ℤ) → taken ≡ pos 0 → own ≡ pos 1 → (times : ℤ)
    → own *ℤ number -ℤ times *ℤ taken ≡ number
idle_first own number taken h k times =
    ap (λ (z : ℤ). own *ℤ number -ℤ times *ℤ z) h ∙ ap (λ (z : ℤ). z *ℤ number -ℤ times *ℤ pos 0) k ∙ one number times
  where
    one : (a t : ℤ) → pos 1 *ℤ a -ℤ t *ℤ pos 0 ≡ a
    one a t = omega (arith, ints)

pub idle_zero : (own number taken : ℤ) → taken ≡ pos 0 → number ≡ pos 0 → (times : ℤ)
    → own *ℤ number -ℤ times *ℤ taken ≡ number
idle_zero own number taken h k times =
    ap (λ (z : ℤ). own *ℤ number -ℤ times *ℤ z) h ∙ ap (λ (z : ℤ). own *ℤ z -ℤ times *ℤ pos 0) k
    ∙ nothing_combined own times ∙ sym k

-- ---- divided

pub record IsShrunkBelow (divisor : ℤ) (before : List ℤ) (count : ℕ) (now : List ℤ) : Type 0 where
  pub same : length now ≡ length before
  pub below : (index : ℕ) → index < count → number_at now index *ℤ divisor ≡ number_at before index
  pub behind : (index : ℕ) → count ≤ index → number_at now index ≡ number_at before index

pub none_shrunk : (divisor : ℤ) (before : List ℤ) → IsShrunkBelow divisor before 0 before
none_shrunk divisor before = record {
  same = refl;
  below = λ index less. absurd (omega arith);
  behind = λ index past. refl;
}

pub shrunk_more : (divisor : ℤ) (before : List ℤ) (count : ℕ) (now : List ℤ) (quotient : ℤ) → count < length now
    → IsShrunkBelow divisor before count now → quotient *ℤ divisor ≡ number_at now count
    → IsShrunkBelow divisor before (count + 1) (set now count quotient)
shrunk_more divisor before count now quotient less h is = record {
  same = length-set now count quotient ∙ h.same;
  below = λ index low.
      elim (cases_eq index count) [
        | inl here ↦
            ap (λ (n : ℕ). number_at (set now count quotient) n *ℤ divisor) here
            ∙ ap (λ (z : ℤ). z *ℤ divisor) (get_or-set_same now count quotient (pos 0) less) ∙ is
            ∙ h.behind count (omega arith) ∙ ap (λ (n : ℕ). number_at before n) (sym here)
        | inr differs ↦ ap (λ (z : ℤ). z *ℤ divisor) (get_or-set_other now count index quotient (pos 0) differs)
            ∙ h.below index (omega arith)
      ];
  behind = λ index past.
      get_or-set_other now count index quotient (pos 0) (λ (same : index ≡ count). absurd (omega arith))
      ∙ h.behind index (omega arith);
}

pub all_shrunk : (divisor : ℤ) (before : List ℤ) (count : ℕ) (now : List ℤ) → length before ≤ count
    → pos 0 <ℤ divisor → IsShrunkBelow divisor before count now → IsShrunk before now
all_shrunk divisor before count now past some h = record {
  divisor = divisor;
  positive = some;
  count = h.same;
  numbers = λ index.
      elim (cases_lt index (length before)) [
        | inl less ↦ h.below index (omega arith)
        | inr over ↦
            let same = h.same in
            ap (λ (z : ℤ). z *ℤ divisor) (get_or_past now index (pos 0) (omega arith)) ∙ zero-*ℤ divisor
            ∙ sym (get_or_past before index (pos 0) over)
      ];
}

pub same_shrunk : (before : List ℤ) → IsShrunk before before
same_shrunk before = record {
  divisor = pos 1;
  positive = omega (arith, ints);
  count = refl;
  numbers = λ index. mul-one (number_at before index);
}
