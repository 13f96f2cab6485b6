-- What a row takes of the first rows, from its last change back (`row_more`, `row_ends`).
use Rattle.std.proofs.Common.{◌≡◌, ◌⊎◌, inl, inr, ℕ, zero, suc, ◌-◌, ◌<◌, List, length, refl, sym, ap, ◌∙◌, arith}
use Rattle.std.specs.Prelude.{ℤ, pos, ◌+ℤ◌, ◌-ℤ◌, ◌*ℤ◌, neg_ℤ, set, ◌==◌, if◌then◌else◌, slice_get}
use Rattle.std.specs.Prelude.{slice_index_or, Option}
use Rattle.std.specs.Prelude.{Some, None}
use Rattle.std.specs.Int.{w64}
use Rattle.std.proofs.lemmas.Int.{ints, int_wrap-add_same, int_wrap-sub_right, int_wrap-mul_left}
use Rattle.suit_num.proofs.IntegerLaws.{mul_assoc, mul-one, mul-sub_left, mul-neg_left}
use Rattle.std.proofs.Math.IntN.{*ℤ_comm}
use Rattle.suit_linear.specs.Points.{number_at}
use Rattle.suit_linear_fast.specs.declared.past_pivots.Change.{Change}
use Rattle.suit_linear_fast.specs.declared.past_pivots.Leaver.{Leaver}
use Rattle.suit_linear_fast.specs.declared.past_pivots.PastPivots.{PastPivots}
use Rattle.suit_linear_fast.specs.Cells.{number_in}
use Rattle.suit_linear_fast.specs.Replays.{wrapped, Agree, AreTaken, weights_of, taken_by, taken_at, row_first, row_changed}
use Rattle.suit_linear_fast.specs.Replays.{row_after, row_now, IsRow}
use Rattle.suit_linear_fast.proofs.ReplaySteps.{wrapped_twice, none_taken, taken_same, taken_more}

-- ---- agreement

agree_mul : (a b c : ℤ) → Agree a b → Agree (a *ℤ c) (b *ℤ c)
agree_mul a b c h =
    sym (int_wrap-mul_left w64 a c) ∙ ap (λ (z : ℤ). wrapped (z *ℤ c)) h ∙ int_wrap-mul_left w64 b c

agree_sub : (a b c : ℤ) → Agree b c → Agree (a -ℤ b) (a -ℤ c)
agree_sub a b c h =
    sym (int_wrap-sub_right w64 a b) ∙ ap (λ (z : ℤ). wrapped (a -ℤ z)) h ∙ int_wrap-sub_right w64 a c

plus_turned : (a b : ℤ) → a +ℤ b ≡ b +ℤ a
plus_turned a b = omega (arith, ints)

agree_add : (a b c d : ℤ) → Agree a b → Agree c d → Agree (a +ℤ c) (b +ℤ d)
agree_add a b c d h k =
    int_wrap-add_same w64 a b c h ∙ ap wrapped (plus_turned b c) ∙ int_wrap-add_same w64 c d b k
    ∙ ap wrapped (plus_turned d b)

-- by a multiple that wraps
pub taken_wrapped : (before : List ℤ) (times whole : ℤ) (others : ℕ → ℤ) (after : List ℤ) → times ≡ wrapped whole
    → AreTaken before times others after → AreTaken before whole others after
taken_wrapped before times whole others after e h = record {
  count = h.count;
  numbers = λ index less.
      h.numbers index less
      ∙ agree_sub (number_at before index) (times *ℤ others index) (whole *ℤ others index)
      (agree_mul times whole (others index) (ap wrapped e ∙ wrapped_twice whole));
}

-- ---- the row that left

pub taken_here : (past : PastPivots) (pivot : ℕ) (leaver : Leaver) (times : ℤ) (before after : List ℤ)
    → slice_get past.leavers.items pivot ≡ Some leaver
    → AreTaken before times (number_in (weights_of past pivot leaver)) after
    → AreTaken before times (taken_at past pivot) after
taken_here past pivot leaver times before after e h =
    taken_same before times (number_in (weights_of past pivot leaver)) (taken_at past pivot) after
    (λ index. ap (λ (found : Option Leaver). taken_by past pivot found index) e) h

pub taken_nowhere : (past : PastPivots) (pivot : ℕ) (times : ℤ) (before : List ℤ)
    → slice_get past.leavers.items pivot ≡ None → AreTaken before times (taken_at past pivot) before
taken_nowhere past pivot times before e =
    none_taken before times (taken_at past pivot)
    (λ index. ap (λ (found : Option Leaver). taken_by past pivot found index) e)

-- ---- the row before it changes

itself : (a f : ℤ) → a +ℤ f ≡ a -ℤ neg_ℤ f *ℤ pos 1
itself a f = let one = mul-one (neg_ℤ f) in omega (arith, ints)

plus_nothing : (a : ℤ) → a ≡ a +ℤ pos 0
plus_nothing a = omega (arith, ints)

pub itself_added : (past : PastPivots) (row left : ℕ) (factor value : ℤ) (weights : List ℤ) → left ≡ 0
    → row < length weights → value ≡ wrapped (number_at weights row +ℤ factor)
    → AreTaken weights (neg_ℤ factor) (row_first past row left) (set weights row value)
itself_added past row left factor value weights none within e =
    taken_same weights (neg_ℤ factor) _ (row_first past row left) _
    (λ index. ap (λ (n : ℕ). row_first past row n index) none
    ∙ plus_nothing (if index == row then pos 1 else pos 0))
    (taken_more weights (neg_ℤ factor) (λ index. pos 0) weights row (pos 1) value within
    (none_taken weights (neg_ℤ factor) (λ index. pos 0) (λ index. refl))
    (e ∙ ap wrapped (itself (number_at weights row) factor)))

pub left_added : (past : PastPivots) (row left : ℕ) (factor times : ℤ) (weights after : List ℤ) → 0 < left
    → times ≡ wrapped (neg_ℤ factor) → AreTaken weights times (taken_at past (left - 1)) after
    → AreTaken weights (neg_ℤ factor) (row_first past row left) after
left_added past row left factor times weights after some e h =
    let is : left ≡ suc (left - 1) = omega arith in
    taken_same weights (neg_ℤ factor) (taken_at past (left - 1)) (row_first past row left) after
    (λ index. ap (λ (n : ℕ). row_first past row n index) is)
    (taken_wrapped weights times (neg_ℤ factor) (taken_at past (left - 1)) after e h)

-- ---- change by change

-- with the rest of the row by a factor, weights are the row
pub record IsRowLeft (past : PastPivots) (row most count : ℕ) (factor : ℤ) (weights : List ℤ) : Type 0 where
  pub numbers : (index : ℕ) → index < length weights
      → Agree (number_at weights index +ℤ factor *ℤ row_after most past row count index)
      (row_now past row index)

pub row_begins : (past : PastPivots) (row last : ℕ) (weights : List ℤ)
    → last ≡ slice_index_or past.last.items row 0 → ((index : ℕ) → number_at weights index ≡ pos 0)
    → IsRowLeft past row (length past.changes.items) last (pos 1) weights
row_begins past row last weights e none = record {
  numbers = λ index less.
      ap wrapped
      (once (number_at weights index) (row_after (length past.changes.items) past row last index) (none index)
      ∙ ap (λ (n : ℕ). row_after (length past.changes.items) past row n index) e);
}
  where
    once : (a b : ℤ) → a ≡ pos 0 → a +ℤ pos 1 *ℤ b ≡ b
    once a b h = let one = mul-one b in let turned = *ℤ_comm (pos 1) b in omega (arith, ints)

step : (w n f t o r l m g : ℤ) → Agree n (w -ℤ m *ℤ l) → m ≡ wrapped (f *ℤ t) → g ≡ wrapped (f *ℤ o)
    → Agree (n +ℤ g *ℤ r) (w +ℤ f *ℤ (o *ℤ r -ℤ t *ℤ l))
step w n f t o r l m g h e k =
    let taken : Agree n (w -ℤ f *ℤ t *ℤ l) =
    h ∙ agree_sub w (m *ℤ l) (f *ℤ t *ℤ l) (agree_mul m (f *ℤ t) l (ap wrapped e ∙ wrapped_twice (f *ℤ t))) in
    let rest : Agree (g *ℤ r) (f *ℤ o *ℤ r) =
    agree_mul g (f *ℤ o) r (ap wrapped k ∙ wrapped_twice (f *ℤ o)) in
    agree_add n (w -ℤ f *ℤ t *ℤ l) (g *ℤ r) (f *ℤ o *ℤ r) taken rest ∙ ap wrapped (together w f t o r l)
  where
    together : (w f t o r l : ℤ) → (w -ℤ f *ℤ t *ℤ l) +ℤ f *ℤ o *ℤ r ≡ w +ℤ f *ℤ (o *ℤ r -ℤ t *ℤ l)
    together w f t o r l =
        let first = mul_assoc f t l in
        let second = mul_assoc f o r in
        let split = mul-sub_left f (o *ℤ r) (t *ℤ l) in
        omega (arith, ints)

after_is : (past : PastPivots) (row most last : ℕ) (found : Option Change) (index : ℕ)
    → slice_get past.changes.items last ≡ found
    → row_after (suc most) past row (suc last) index
    ≡ row_changed past found (row_after most past row) index
unfolding row_after
after_is past row most last found index e =
    ap (λ (o : Option Change). row_changed past o (row_after most past row) index) e

pub row_more : (past : PastPivots) (row most count : ℕ) (change : Change) (factor times next_factor : ℤ)
    (weights next : List ℤ) → 0 < count → slice_get past.changes.items (count - 1) ≡ Some change
    → times ≡ wrapped (factor *ℤ change.times) → next_factor ≡ wrapped (factor *ℤ pos change.own)
    → AreTaken weights times (taken_at past change.pivot) next
    → IsRowLeft past row (suc most) count factor weights → IsRowLeft past row most change.before next_factor next
row_more past row most count change factor times next_factor weights next some found e k taken h = record {
  numbers = λ index less.
      let same = taken.count in
      let within : index < length weights = omega arith in
      let is : count ≡ suc (count - 1) = omega arith in
      step (number_at weights index) (number_at next index) factor change.times (pos change.own)
      (row_after most past row change.before index) (taken_at past change.pivot index) times next_factor
      (taken.numbers index within) e k
      ∙ ap (λ (z : ℤ). wrapped (number_at weights index +ℤ factor *ℤ z))
      (sym (ap (λ (n : ℕ). row_after (suc most) past row n index) is
      ∙ after_is past row most (count - 1) (Some change) index found))
      ∙ h.numbers index within;
}

-- a change that is not kept
pub row_stops : (past : PastPivots) (row most count : ℕ) (factor : ℤ) (weights : List ℤ) → 0 < count
    → slice_get past.changes.items (count - 1) ≡ None → IsRowLeft past row (suc most) count factor weights
    → IsRow past row weights
row_stops past row most count factor weights some found h = record {
  numbers = λ index less.
      let is : count ≡ suc (count - 1) = omega arith in
      ap wrapped
      (nothing (number_at weights index) factor
      ∙ ap (λ (z : ℤ). number_at weights index +ℤ factor *ℤ z)
      (sym (ap (λ (n : ℕ). row_after (suc most) past row n index) is
      ∙ after_is past row most (count - 1) None index found)))
      ∙ h.numbers index less;
}
  where
    nothing : (a b : ℤ) → a ≡ a +ℤ b *ℤ pos 0
    nothing a b = omega (arith, ints)

first_is : (past : PastPivots) (row most count index : ℕ) → (most ≡ 0) ⊎ (count ≡ 0)
    → row_after most past row count index ≡ row_first past row (slice_index_or past.left.items row 0) index
unfolding row_after
first_is past row zero count index h = refl
first_is past row (suc most) zero index h = refl
first_is past row (suc most) (suc count) index (inl e) = absurd (omega arith)
first_is past row (suc most) (suc count) index (inr e) = absurd (omega arith)

pub row_ends : (past : PastPivots) (row most count : ℕ) (factor : ℤ) (weights after : List ℤ)
    → (most ≡ 0) ⊎ (count ≡ 0) → IsRowLeft past row most count factor weights
    → AreTaken weights (neg_ℤ factor) (row_first past row (slice_index_or past.left.items row 0)) after
    → IsRow past row after
row_ends past row most count factor weights after end h taken = record {
  numbers = λ index less.
      let same = taken.count in
      let within : index < length weights = omega arith in
      taken.numbers index within
      ∙ ap wrapped
      (turned (number_at weights index) factor
      (row_first past row (slice_index_or past.left.items row 0) index)
      ∙ ap (λ (z : ℤ). number_at weights index +ℤ factor *ℤ z)
      (sym (first_is past row most count index end)))
      ∙ h.numbers index within;
}
  where
    turned : (a f b : ℤ) → a -ℤ neg_ℤ f *ℤ b ≡ a +ℤ f *ℤ b
    turned a f b = let same = mul-neg_left f b in omega (arith, ints)
