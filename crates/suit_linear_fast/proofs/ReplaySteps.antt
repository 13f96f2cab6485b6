-- Replays of pivots, cell by cell and change by change (`taken_more`, `multiplied_more`).
use Rattle.std.proofs.Common.{◌≡◌, inl, inr, ℕ, zero, suc, ◌+◌, ◌<◌, ◌≤◌, List, [], ◌∷◌, length, take, get_or, refl}
use Rattle.std.proofs.Common.{sym, ap, ◌∙◌, arith}
use Rattle.std.specs.Prelude.{ℤ, pos, ◌+ℤ◌, ◌-ℤ◌, ◌*ℤ◌, neg_ℤ, set, ◌==◌, if◌then◌else◌}
use Rattle.std.specs.Int.{w64}
use Rattle.std.proofs.lemmas.Int.{ints, int_wrap_fits, SFits-int_wrap, int_wrap-add_same, int_wrap-mul_left}
use Rattle.std.proofs.lemmas.Bool.{cases_eq, cond-true, cond-false, eq-eqb, ne_eqb}
use Rattle.std.proofs.lemmas.List.{length-set, get_or-set_same, get_or-set_other}
use Rattle.suit_num.proofs.IntegerLaws.{mul-add_left, mul_assoc, mul_left_comm, mul-one}
use Rattle.std.proofs.Math.IntN.{*ℤ_comm}
use Rattle.suit_linear.specs.Points.{number_at}
use Rattle.suit_linear_fast.specs.declared.cells.Cell.{Cell}
use Rattle.suit_linear_fast.specs.declared.past_pivots.Change.{Change}
use Rattle.suit_linear_fast.specs.Cells.{number_in}
use Rattle.suit_linear_fast.specs.Replays.{wrapped, Agree, times_of, times_in, factor_of, factor_in, AreTaken, AreMultiplied}
use Rattle.suit_linear_fast.proofs.CellSums.{number_in_more}

pub wrapped_twice : (z : ℤ) → wrapped (wrapped z) ≡ wrapped z
wrapped_twice z = int_wrap_fits w64 (wrapped z) (SFits-int_wrap w64 z)

-- ---- multiples taken

nothing_taken : (a b : ℤ) → a ≡ a -ℤ b *ℤ pos 0
nothing_taken a b = omega (arith, ints)

pub none_taken : (before : List ℤ) (times : ℤ) (others : ℕ → ℤ) → ((index : ℕ) → others index ≡ pos 0)
    → AreTaken before times others before
none_taken before times others none = record {
  count = refl;
  numbers = λ index less.
      ap wrapped (nothing_taken (number_at before index) times
      ∙ ap (λ (z : ℤ). number_at before index -ℤ times *ℤ z) (sym (none index)));
}

-- by other numbers that are the same
pub taken_same : (before : List ℤ) (times : ℤ) (others same : ℕ → ℤ) (after : List ℤ)
    → ((index : ℕ) → same index ≡ others index) → AreTaken before times others after
    → AreTaken before times same after
taken_same before times others same after e h = record {
  count = h.count;
  numbers = λ index less.
      h.numbers index less
      ∙ ap (λ (z : ℤ). wrapped (number_at before index -ℤ times *ℤ z)) (sym (e index));
}

spread_out : (b t o p : ℤ) → (b -ℤ t *ℤ o) +ℤ neg_ℤ (t *ℤ p) ≡ b -ℤ t *ℤ (p +ℤ o)
spread_out b t o p = let split = mul-add_left t p o in omega (arith, ints)

both_taken : (b n t o p : ℤ) → Agree n (b -ℤ t *ℤ o) → Agree (wrapped (n -ℤ t *ℤ p)) (b -ℤ t *ℤ (p +ℤ o))
both_taken b n t o p h =
    wrapped_twice (n -ℤ t *ℤ p) ∙ int_wrap-add_same w64 n (b -ℤ t *ℤ o) (neg_ℤ (t *ℤ p)) h
    ∙ ap wrapped (spread_out b t o p)

nothing_more : (p o : ℤ) → p ≡ pos 0 → p +ℤ o ≡ o
nothing_more p o e = omega (arith, ints)

-- one more number at a place
pub taken_more : (before : List ℤ) (times : ℤ) (others : ℕ → ℤ) (now : List ℤ) (place : ℕ) (other value : ℤ)
    → place < length now → AreTaken before times others now
    → value ≡ wrapped (number_at now place -ℤ times *ℤ other)
    → AreTaken before times (λ index. (if index == place then other else pos 0) +ℤ others index) (set now place value)
taken_more before times others now place other value inside h e = record {
  count = length-set now place value ∙ h.count;
  numbers = λ index less.
      elim (cases_eq index place) [
        | inl here ↦
            ap wrapped
            (ap (λ (n : ℕ). number_at (set now place value) n) here
            ∙ get_or-set_same now place value (pos 0) inside ∙ e
            ∙ ap (λ (n : ℕ). wrapped (number_at now n -ℤ times *ℤ other)) (sym here))
            ∙ both_taken (number_at before index) (number_at now index) times (others index) other
            (h.numbers index less)
            ∙ ap (λ (z : ℤ). wrapped (number_at before index -ℤ times *ℤ (z +ℤ others index)))
            (sym (cond-true (index == place) other (pos 0) (eq-eqb index place here)))
        | inr differs ↦
            ap wrapped (get_or-set_other now place index value (pos 0) differs) ∙ h.numbers index less
            ∙ ap (λ (z : ℤ). wrapped (number_at before index -ℤ times *ℤ z))
            (sym (nothing_more (if index == place then other else pos 0) (others index)
            (cond-false (index == place) other (pos 0) (ne_eqb index place differs))))
      ];
}

-- one more number at a place that there is not
pub taken_past : (before : List ℤ) (times : ℤ) (others : ℕ → ℤ) (now : List ℤ) (place : ℕ) (other : ℤ)
    → length now ≤ place → AreTaken before times others now
    → AreTaken before times (λ index. (if index == place then other else pos 0) +ℤ others index) now
taken_past before times others now place other past h = record {
  count = h.count;
  numbers = λ index less.
      let count = h.count in
      let differs : index ≡ place → ⊥ = λ e. omega arith in
      h.numbers index less
      ∙ ap (λ (z : ℤ). wrapped (number_at before index -ℤ times *ℤ z))
      (sym (nothing_more (if index == place then other else pos 0) (others index)
      (cond-false (index == place) other (pos 0) (ne_eqb index place differs))));
}

regroup : (a b c : ℤ) → a +ℤ (b +ℤ c) ≡ b +ℤ (a +ℤ c)
regroup a b c = omega (arith, ints)

-- one more change
pub times_in_more : (changes : List Change) (count : ℕ) (other : Change) (row : ℕ) → count < length changes
    → times_in (take (count + 1) changes) row
    ≡ times_of (get_or changes count other) row +ℤ times_in (take count changes) row
unfolding times_in
times_in_more [] count other row less = absurd (omega arith)
times_in_more (first ∷ changes) zero other row less = refl
times_in_more (first ∷ changes) (suc count) other row less =
    let e : suc count + 1 ≡ suc (count + 1) = omega arith in
    rw e
    (ap (λ (z : ℤ). times_of first row +ℤ z) (times_in_more changes count other row (omega arith))
    ∙ regroup (times_of first row) (times_of (get_or changes count other) row) (times_in (take count changes) row))

pub no_times : (row : ℕ) → times_in [] row ≡ pos 0
unfolding times_in
no_times row = refl

pub no_number : (index : ℕ) → number_in [] index ≡ pos 0
unfolding number_in
no_number index = refl

-- ---- factors

pub none_multiplied : (before : List ℤ) (factors : ℕ → ℤ) → ((index : ℕ) → factors index ≡ pos 1)
    → AreMultiplied before factors before
none_multiplied before factors none = record {
  count = refl;
  numbers = λ index less.
      ap wrapped (sym (mul-one (number_at before index))
      ∙ ap (λ (z : ℤ). number_at before index *ℤ z) (sym (none index)));
}

pub multiplied_same : (before : List ℤ) (factors same : ℕ → ℤ) (after : List ℤ)
    → ((index : ℕ) → same index ≡ factors index) → AreMultiplied before factors after
    → AreMultiplied before same after
multiplied_same before factors same after e h = record {
  count = h.count;
  numbers = λ index less.
      h.numbers index less ∙ ap (λ (z : ℤ). wrapped (number_at before index *ℤ z)) (sym (e index));
}

both_multiplied : (b n f p : ℤ) → Agree n (b *ℤ f) → Agree (wrapped (n *ℤ p)) (b *ℤ (p *ℤ f))
both_multiplied b n f p h =
    wrapped_twice (n *ℤ p) ∙ sym (int_wrap-mul_left w64 n p) ∙ ap (λ (z : ℤ). wrapped (z *ℤ p)) h
    ∙ int_wrap-mul_left w64 (b *ℤ f) p
    ∙ ap wrapped (mul_assoc b f p ∙ ap (λ (z : ℤ). b *ℤ z) (*ℤ_comm f p))

once_more : (p f : ℤ) → p ≡ pos 1 → p *ℤ f ≡ f
once_more p f e = ap (λ (z : ℤ). z *ℤ f) e ∙ *ℤ_comm (pos 1) f ∙ mul-one f

-- one more factor at a place
pub multiplied_more : (before : List ℤ) (factors : ℕ → ℤ) (now : List ℤ) (place : ℕ) (other value : ℤ)
    → place < length now → AreMultiplied before factors now → value ≡ wrapped (number_at now place *ℤ other)
    → AreMultiplied before (λ index. (if index == place then other else pos 1) *ℤ factors index) (set now place value)
multiplied_more before factors now place other value inside h e = record {
  count = length-set now place value ∙ h.count;
  numbers = λ index less.
      elim (cases_eq index place) [
        | inl here ↦
            ap wrapped
            (ap (λ (n : ℕ). number_at (set now place value) n) here
            ∙ get_or-set_same now place value (pos 0) inside ∙ e
            ∙ ap (λ (n : ℕ). wrapped (number_at now n *ℤ other)) (sym here))
            ∙ both_multiplied (number_at before index) (number_at now index) (factors index) other
            (h.numbers index less)
            ∙ ap (λ (z : ℤ). wrapped (number_at before index *ℤ (z *ℤ factors index)))
            (sym (cond-true (index == place) other (pos 1) (eq-eqb index place here)))
        | inr differs ↦
            ap wrapped (get_or-set_other now place index value (pos 0) differs) ∙ h.numbers index less
            ∙ ap (λ (z : ℤ). wrapped (number_at before index *ℤ z))
            (sym (once_more (if index == place then other else pos 1) (factors index)
            (cond-false (index == place) other (pos 1) (ne_eqb index place differs))))
      ];
}

-- one more factor at a place that there is not
pub multiplied_past : (before : List ℤ) (factors : ℕ → ℤ) (now : List ℤ) (place : ℕ) (other : ℤ)
    → length now ≤ place → AreMultiplied before factors now
    → AreMultiplied before (λ index. (if index == place then other else pos 1) *ℤ factors index) now
multiplied_past before factors now place other past h = record {
  count = h.count;
  numbers = λ index less.
      let count = h.count in
      let differs : index ≡ place → ⊥ = λ e. omega arith in
      h.numbers index less
      ∙ ap (λ (z : ℤ). wrapped (number_at before index *ℤ z))
      (sym (once_more (if index == place then other else pos 1) (factors index)
      (cond-false (index == place) other (pos 1) (ne_eqb index place differs))));
}

pub factor_in_more : (cells : List Cell) (count : ℕ) (other : Cell) (index : ℕ) → count < length cells
    → factor_in (take (count + 1) cells) index
    ≡ factor_of (get_or cells count other) index *ℤ factor_in (take count cells) index
unfolding factor_in
factor_in_more [] count other index less = absurd (omega arith)
factor_in_more (first ∷ cells) zero other index less = refl
factor_in_more (first ∷ cells) (suc count) other index less =
    let e : suc count + 1 ≡ suc (count + 1) = omega arith in
    rw e
    (ap (λ (z : ℤ). factor_of first index *ℤ z) (factor_in_more cells count other index (omega arith))
    ∙ mul_left_comm (factor_of first index) (factor_of (get_or cells count other) index)
    (factor_in (take count cells) index))

pub no_factor : (index : ℕ) → factor_in [] index ≡ pos 1
unfolding factor_in
no_factor index = refl

-- ---- one more of a list

pub changes_more : (before : List ℤ) (times : ℤ) (changes : List Change) (count : ℕ) (other : Change) (now : List ℤ)
    (value : ℤ) → count < length changes → (get_or changes count other).row < length now
    → AreTaken before times (times_in (take count changes)) now
    → value ≡ wrapped (number_at now (get_or changes count other).row -ℤ times *ℤ (get_or changes count other).times)
    → AreTaken before times (times_in (take (count + 1) changes)) (set now (get_or changes count other).row value)
changes_more before times changes count other now value less inside h e =
    let change : Change = get_or changes count other in
    taken_same before times _ _ _ (λ row. times_in_more changes count other row less)
    (taken_more before times (times_in (take count changes)) now change.row change.times value inside h e)

pub changes_past : (before : List ℤ) (times : ℤ) (changes : List Change) (count : ℕ) (other : Change) (now : List ℤ)
    → count < length changes → length now ≤ (get_or changes count other).row
    → AreTaken before times (times_in (take count changes)) now
    → AreTaken before times (times_in (take (count + 1) changes)) now
changes_past before times changes count other now less past h =
    let change : Change = get_or changes count other in
    taken_same before times _ _ _ (λ row. times_in_more changes count other row less)
    (taken_past before times (times_in (take count changes)) now change.row change.times past h)

pub cells_more : (before : List ℤ) (times : ℤ) (cells : List Cell) (count : ℕ) (other : Cell) (now : List ℤ) (value : ℤ)
    → count < length cells → (get_or cells count other).index < length now
    → AreTaken before times (number_in (take count cells)) now
    → value ≡ wrapped (number_at now (get_or cells count other).index -ℤ times *ℤ (get_or cells count other).number)
    → AreTaken before times (number_in (take (count + 1) cells)) (set now (get_or cells count other).index value)
cells_more before times cells count other now value less inside h e =
    let cell : Cell = get_or cells count other in
    taken_same before times _ _ _ (λ index. number_in_more cells count other index less)
    (taken_more before times (number_in (take count cells)) now cell.index cell.number value inside h e)

pub cells_past : (before : List ℤ) (times : ℤ) (cells : List Cell) (count : ℕ) (other : Cell) (now : List ℤ)
    → count < length cells → length now ≤ (get_or cells count other).index
    → AreTaken before times (number_in (take count cells)) now
    → AreTaken before times (number_in (take (count + 1) cells)) now
cells_past before times cells count other now less past h =
    let cell : Cell = get_or cells count other in
    taken_same before times _ _ _ (λ index. number_in_more cells count other index less)
    (taken_past before times (number_in (take count cells)) now cell.index cell.number past h)

pub factors_more : (before : List ℤ) (cells : List Cell) (count : ℕ) (other : Cell) (now : List ℤ) (value : ℤ)
    → count < length cells → (get_or cells count other).index < length now
    → AreMultiplied before (factor_in (take count cells)) now
    → value ≡ wrapped (number_at now (get_or cells count other).index *ℤ (get_or cells count other).number)
    → AreMultiplied before (factor_in (take (count + 1) cells)) (set now (get_or cells count other).index value)
factors_more before cells count other now value less inside h e =
    let cell : Cell = get_or cells count other in
    multiplied_same before _ _ _ (λ index. factor_in_more cells count other index less)
    (multiplied_more before (factor_in (take count cells)) now cell.index cell.number value inside h e)

pub factors_past : (before : List ℤ) (cells : List Cell) (count : ℕ) (other : Cell) (now : List ℤ)
    → count < length cells → length now ≤ (get_or cells count other).index
    → AreMultiplied before (factor_in (take count cells)) now
    → AreMultiplied before (factor_in (take (count + 1) cells)) now
factors_past before cells count other now less past h =
    let cell : Cell = get_or cells count other in
    multiplied_same before _ _ _ (λ index. factor_in_more cells count other index less)
    (multiplied_past before (factor_in (take count cells)) now cell.index cell.number past h)
