-- What a line tells of its row after a pivot (`line_changed`).
use Rattle.std.proofs.Common.{◌≡◌, ℕ, suc, ◌+◌, ◌*◌, ◌≤◌, List, length, sym, ap, ap₂, ◌∙◌, arith}
use Rattle.std.specs.Prelude.{ℤ, pos, ◌-ℤ◌, ◌*ℤ◌, ◌<ℤ◌, unsigned_abs}
use Rattle.suit_num.proofs.IntegerLaws.{mul_assoc, mul_left_comm, mul-sub_left, mul_positive}
use Rattle.suit_linear.specs.Points.{number_at}
use Rattle.suit_linear.specs.Tableaus.{TableauRow}
use Rattle.suit_linear.specs.Pivots.{combined}
use Rattle.suit_linear.specs.Multiples.{AreMultiples}
use Rattle.suit_linear.proofs.ClearingByGcd.{IsCleared}
use Rattle.suit_linear.proofs.Contents.{length-combined, number_at-combined}
use Rattle.suit_linear.proofs.Multiples.{multiples_cleared}
use Rattle.suit_linear.proofs.SmallTableaus.{changed_size}
use Rattle.suit_linear.proofs.Signs.{nothing_taken}
use Rattle.suit_linear_fast.specs.declared.lines.Line.{Line}
use Rattle.suit_linear_fast.specs.Lines.{IsLineOf, IsChangedLine}

-- ---- multiples of both rows

module _ (p s : ℤ) (before leaver after numbers : List ℤ) (x : ℕ → ℤ) (index : ℕ) (own times : ℤ)
    (clear : IsCleared p s before leaver after) (is : AreMultiples x (number_at before))
    (also : AreMultiples (number_at numbers) (number_at leaver)) (here : number_at before index ≡ s)
    (there : number_at leaver index ≡ p) (some : pos 0 <ℤ p) (own_some : pos 0 <ℤ own)
    (balance : own *ℤ x index ≡ times *ℤ number_at numbers index) where
  balance_whole : (also.left *ℤ own) *ℤ x index ≡ (times *ℤ also.right) *ℤ p
  balance_whole =
      mul_assoc also.left own (x index)
      ∙ ap (λ (z : ℤ). also.left *ℤ z) balance
      ∙ mul_left_comm also.left times (number_at numbers index)
      ∙ ap (λ (z : ℤ). times *ℤ z) (also.numbers index ∙ ap (λ (z : ℤ). also.right *ℤ z) there)
      ∙ sym (mul_assoc times also.right p)

  factored : (k : ℕ) → also.left *ℤ (own *ℤ x k -ℤ times *ℤ number_at numbers k)
      ≡ (also.left *ℤ own) *ℤ x k -ℤ (times *ℤ also.right) *ℤ number_at leaver k
  factored k =
      mul-sub_left also.left (own *ℤ x k) (times *ℤ number_at numbers k)
      ∙ ap₂ (λ (y z : ℤ). y -ℤ z) (sym (mul_assoc also.left own (x k)))
      (mul_left_comm also.left times (number_at numbers k) ∙ ap (λ (z : ℤ). times *ℤ z) (also.numbers k)
      ∙ sym (mul_assoc times also.right (number_at leaver k)))

  -- a multiple of a row, less a multiple of the leaving one that clears its entry, is a multiple of the cleared row
  pub both_cleared : AreMultiples (λ k. own *ℤ x k -ℤ times *ℤ number_at numbers k) (number_at after)
  both_cleared =
      let whole : AreMultiples (λ k. (also.left *ℤ own) *ℤ x k -ℤ (times *ℤ also.right) *ℤ number_at leaver k)
      (number_at after) =
      multiples_cleared p s before leaver after x index (also.left *ℤ own) (times *ℤ also.right) clear is here some
      (mul_positive also.left own also.left_positive own_some) balance_whole in
      record {
        left = whole.left *ℤ also.left;
        right = whole.right;
        left_positive = mul_positive whole.left also.left whole.left_positive also.left_positive;
        right_positive = whole.right_positive;
        numbers = λ k. mul_assoc whole.left also.left (own *ℤ x k -ℤ times *ℤ number_at numbers k)
            ∙ ap (λ (z : ℤ). whole.left *ℤ z) (factored k) ∙ whole.numbers k;
      }

-- multiples by equal numbers
pub same_multiples : (x y z : ℕ → ℤ) → ((index : ℕ) → x index ≡ y index) → AreMultiples y z → AreMultiples x z
same_multiples x y z e is = record {
  left = is.left;
  right = is.right;
  left_positive = is.left_positive;
  right_positive = is.right_positive;
  numbers = λ index. ap (λ (n : ℤ). is.left *ℤ n) (e index) ∙ is.numbers index;
}

-- ---- a line

module _ (column : ℕ) (before leaver after : TableauRow) (numbers : List ℤ) (line next top : Line) (entry pivot : ℤ)
    (p s : ℤ) (clear : IsCleared p s before.numbers leaver.numbers after.numbers) (same : after.basic ≡ before.basic)
    (here : number_at before.numbers (suc column) ≡ s) (there : number_at leaver.numbers (suc column) ≡ p)
    (some : pos 0 <ℤ p) (also : AreMultiples (number_at numbers) (number_at leaver.numbers))
    (width : length numbers ≡ length before.numbers) (sizes : (k : ℕ) → unsigned_abs (number_at numbers k) ≤ top.size)
    (first : number_at numbers 0 ≡ top.bound) (apart : number_at numbers (suc before.basic) ≡ pos 0)
    (pivot_is : number_at numbers (suc column) ≡ pivot) (is : IsLineOf line before)
    (entry_is : number_at is.multiple (suc column) ≡ entry) (change : IsChangedLine line entry pivot top next) where
  changed : List ℤ
  changed = combined change.own is.multiple change.times numbers

  widths : length is.multiple ≡ length numbers
  widths = is.width ∙ sym width

  at : (k : ℕ) → number_at changed k ≡ change.own *ℤ number_at is.multiple k -ℤ change.times *ℤ number_at numbers k
  unfolding changed
  at k = number_at-combined change.own is.multiple change.times numbers k widths

  balance : change.own *ℤ number_at is.multiple (suc column) ≡ change.times *ℤ number_at numbers (suc column)
  balance = ap (λ (z : ℤ). change.own *ℤ z) entry_is ∙ change.balance ∙ ap (λ (z : ℤ). change.times *ℤ z) (sym pivot_is)

  own_stays : (a b t x : ℤ) → a ≡ b → x ≡ pos 0 → a -ℤ t *ℤ x ≡ b
  own_stays a b t x h k = ap (λ (z : ℤ). a -ℤ t *ℤ z) k ∙ nothing_taken a t ∙ h

  pub line_changed : IsLineOf next after
  unfolding changed
  line_changed = record {
    basic = change.basic ∙ is.basic ∙ sym same;
    multiple = changed;
    width = length-combined change.own is.multiple change.times numbers widths ∙ is.width ∙ sym clear.width;
    numbers = same_multiples (number_at changed)
        (λ k. change.own *ℤ number_at is.multiple k -ℤ change.times *ℤ number_at numbers k) (number_at after.numbers)
        at
        (both_cleared p s before.numbers leaver.numbers after.numbers numbers (number_at is.multiple) (suc column)
        change.own change.times clear is.numbers also here there some change.positive balance);
    own = ap (λ (n : ℕ). number_at changed (suc n)) same
        ∙ at (suc before.basic)
        ∙ own_stays (change.own *ℤ number_at is.multiple (suc before.basic)) next.own change.times
        (number_at numbers (suc before.basic)) (ap (λ (z : ℤ). change.own *ℤ z) is.own ∙ sym change.owns) apart;
    bound = at 0 ∙ ap₂ (λ (y z : ℤ). change.own *ℤ y -ℤ change.times *ℤ z) is.bound first ∙ sym change.bounds;
    sizes = λ k. within (unsigned_abs (number_at changed k)) _ (unsigned_abs change.own * line.size
        + unsigned_abs change.times * top.size) next.size (ap unsigned_abs (at k))
        (changed_size change.own (number_at is.multiple k) change.times (number_at numbers k) line.size top.size
        (is.sizes k) (sizes k)) change.sizes;
    small = change.small is.small;
  }
    where
      within : (a b c d : ℕ) → a ≡ b → b ≤ c → c ≤ d → a ≤ d
      within a b c d e h k = omega arith
