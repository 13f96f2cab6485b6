-- Sums of lists and multiples of cells (`added_more`).
use Rattle.std.proofs.Common.{◌≡◌, inl, inr, ℕ, zero, suc, ◌+◌, ◌<◌, ◌≤◌, List, [], ◌∷◌, length, take, get_or, refl}
use Rattle.std.proofs.Common.{sym, ap}
use Rattle.std.proofs.Common.{◌∙◌, arith}
use Rattle.std.specs.Prelude.{ℤ, pos, ◌+ℤ◌, ◌*ℤ◌, set, ◌==◌, FitsSigned}
use Rattle.std.specs.Int.{w64, cast_unsigned, cast_signed}
use Rattle.std.proofs.lemmas.Int.{ints, to_z-of_z}
use Rattle.std.proofs.lemmas.Bool.{cases_eq, cases_lt, cond-true, cond-false, eq-eqb, ne_eqb}
use Rattle.std.proofs.lemmas.List.{length-set, get_or-set_same, get_or-set_other, get_or_past, take_all}
use Rattle.suit_num.proofs.IntegerLaws.{mul-add_left}
use Rattle.suit_linear.specs.Points.{number_at}
use Rattle.suit_linear.proofs.Signs.{times_zero}
use Rattle.suit_linear_fast.specs.declared.cells.Cell.{Cell}
use Rattle.suit_linear_fast.specs.Cells.{number_of, number_in}

-- the multiples of so many cells are added
pub record IsAdded (before : List ℤ) (cells : List Cell) (factor : ℤ) (count : ℕ) (after : List ℤ) : Type 0 where
  pub same : length after ≡ length before
  pub numbers : (index : ℕ) → number_at after index
      ≡ number_at before index +ℤ factor *ℤ number_in (take count cells) index

nothing_added : (a b : ℤ) → a ≡ a +ℤ b *ℤ pos 0
nothing_added a b = let none = times_zero b (pos 0) refl in omega (arith, ints)

pub none_added : (before : List ℤ) (cells : List Cell) (factor : ℤ) → IsAdded before cells factor 0 before
unfolding number_in
none_added before cells factor = record {
  same = refl;
  numbers = λ index. nothing_added (number_at before index) factor;
}

regroup : (a b c : ℤ) → a +ℤ (b +ℤ c) ≡ b +ℤ (a +ℤ c)
regroup a b c = omega (arith, ints)

-- one more cell
pub number_in_more : (cells : List Cell) (count : ℕ) (other : Cell) (index : ℕ) → count < length cells
    → number_in (take (count + 1) cells) index
    ≡ number_of (get_or cells count other) index +ℤ number_in (take count cells) index
unfolding number_in
number_in_more [] count other index less = absurd (omega arith)
number_in_more (first ∷ cells) zero other index less = refl
number_in_more (first ∷ cells) (suc count) other index less =
    let e : suc count + 1 ≡ suc (count + 1) = omega arith in
    rw e
    (ap (λ (z : ℤ). number_of first index +ℤ z) (number_in_more cells count other index (omega arith))
    ∙ regroup (number_of first index) (number_of (get_or cells count other) index) (number_in (take count cells) index))

step_here : (a b f c s d : ℤ) → a ≡ b +ℤ f *ℤ s → d ≡ a +ℤ f *ℤ c → d ≡ b +ℤ f *ℤ (c +ℤ s)
step_here a b f c s d h k = let split = mul-add_left f c s in omega (arith, ints)

step_elsewhere : (a b f c s : ℤ) → a ≡ b +ℤ f *ℤ s → c ≡ pos 0 → a ≡ b +ℤ f *ℤ (c +ℤ s)
step_elsewhere a b f c s h k = let same : c +ℤ s ≡ s = omega (arith, ints) in h ∙ ap (λ (z : ℤ). b +ℤ f *ℤ z) (sym same)

pub added_more : (before : List ℤ) (cells : List Cell) (factor : ℤ) (count : ℕ) (now : List ℤ) (other : Cell) (sum : ℤ)
    → count < length cells → (get_or cells count other).index < length now → IsAdded before cells factor count now
    → sum ≡ number_at now (get_or cells count other).index +ℤ factor *ℤ (get_or cells count other).number
    → IsAdded before cells factor (count + 1) (set now (get_or cells count other).index sum)
added_more before cells factor count now other sum less inside h e = let cell : Cell = get_or cells count other in
    record {
      same = length-set now cell.index sum ∙ h.same;
      numbers = λ index.
          elim (cases_eq index (get_or cells count other).index) [
            | inl here ↦
                ap (λ (n : ℕ). number_at (set now cell.index sum) n) here
                ∙ get_or-set_same now cell.index sum (pos 0) inside
                ∙ step_here (number_at now cell.index) (number_at before cell.index) factor cell.number
                (number_in (take count cells) cell.index) sum (h.numbers cell.index) e
                ∙ ap (λ (n : ℕ). number_at before n +ℤ factor *ℤ (cell.number +ℤ number_in (take count cells) n))
                (sym here)
                ∙ ap (λ (z : ℤ). number_at before index +ℤ factor *ℤ z)
                (ap (λ (z : ℤ). z +ℤ number_in (take count cells) index)
                (sym (cond-true (index == cell.index) cell.number (pos 0) (eq-eqb index cell.index here)))
                ∙ sym (number_in_more cells count other index less))
            | inr differs ↦
                get_or-set_other now cell.index index sum (pos 0) differs
                ∙ step_elsewhere (number_at now index) (number_at before index) factor (number_of cell index)
                (number_in (take count cells) index) (h.numbers index)
                (cond-false (index == cell.index) cell.number (pos 0) (ne_eqb index cell.index differs))
                ∙ ap (λ (z : ℤ). number_at before index +ℤ factor *ℤ z)
                (sym (number_in_more cells count other index less))
          ];
    }

pub all_added : (before : List ℤ) (cells : List Cell) (factor : ℤ) (count : ℕ) (after : List ℤ) → length cells ≤ count
    → IsAdded before cells factor count after → (index : ℕ)
    → number_at after index ≡ number_at before index +ℤ factor *ℤ number_in cells index
all_added before cells factor count after past h index = h.numbers index
    ∙ ap (λ (xs : List Cell). number_at before index +ℤ factor *ℤ number_in xs index) (take_all count cells past)

-- ---- zeros

-- so many numbers are 0
pub record AreZero (count : ℕ) (numbers : List ℤ) : Type 0 where
  pub below : (index : ℕ) → index < count → number_at numbers index ≡ pos 0

pub none_zero : (numbers : List ℤ) → AreZero 0 numbers
none_zero numbers = record { below = λ index less. absurd (omega arith) }

pub zero_more : (numbers : List ℤ) (count : ℕ) → count < length numbers → AreZero count numbers
    → AreZero (count + 1) (set numbers count (pos 0))
zero_more numbers count inside h = record {
  below = λ index less.
      elim (cases_eq index count) [
        | inl here ↦ ap (λ (n : ℕ). number_at (set numbers count (pos 0)) n) here
            ∙ get_or-set_same numbers count (pos 0) (pos 0) inside
        | inr differs ↦ get_or-set_other numbers count index (pos 0) (pos 0) differs ∙ h.below index (omega arith)
      ];
}

pub zero_seen : (numbers : List ℤ) (count : ℕ) → number_at numbers count ≡ pos 0 → AreZero count numbers
    → AreZero (count + 1) numbers
zero_seen numbers count is h = record {
  below = λ index less.
      elim (cases_eq index count) [
        | inl here ↦ ap (λ (n : ℕ). number_at numbers n) here ∙ is
        | inr differs ↦ h.below index (omega arith)
      ];
}

pub every_zero : (numbers : List ℤ) (count : ℕ) → length numbers ≤ count → AreZero count numbers → (index : ℕ)
    → number_at numbers index ≡ pos 0
every_zero numbers count past h index =
    elim (cases_lt index (length numbers)) [
      | inl less ↦ h.below index (omega arith)
      | inr over ↦ get_or_past numbers index (pos 0) over
    ]

-- ---- numbers of 64 bits

-- a number whose bits are 0
pub zero_bits64 : (z : ℤ) → FitsSigned w64 z → cast_unsigned w64 z ≡ 0 → z ≡ pos 0
zero_bits64 z fits e = sym (to_z-of_z w64 z fits) ∙ ap (cast_signed w64) e

pub one_bits64 : (z : ℤ) → FitsSigned w64 z → cast_unsigned w64 z ≡ 1 → z ≡ pos 1
one_bits64 z fits e = sym (to_z-of_z w64 z fits) ∙ ap (cast_signed w64) e
