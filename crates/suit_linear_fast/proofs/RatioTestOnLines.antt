-- The ratio test on the lines keeps the row that the tableau keeps (`line_kept`).
use Rattle.std.proofs.Common.{arith, ◌≡◌, inl, inr, ℕ, zero, suc, ◌+◌, ◌<◌, ◌≤◌, List, [], ◌∷◌, length, take, get_or}
use Rattle.std.proofs.Common.{Bool, true, false, ◌&&◌, ◌||◌, refl, sym, ap, ap₂, ◌∙◌, cond, Option, Some, None}
use Rattle.std.specs.Prelude.{ℤ, pos, ◌*ℤ◌, ◌<ℤ◌, ◌≤ℤ◌, int_lt, nat_lt, fold, slice_get}
use Rattle.std.specs.Option.{ForSome}
use Rattle.std.proofs.lemmas.List.{take_all}
use Rattle.std.proofs.lemmas.Option.{slice_get_cases, slice_get_within, slice_get-get_or}
use Rattle.std.specs.Ordering.{int_eq}
use Rattle.std.proofs.lemmas.Int.{ints}
use Rattle.std.proofs.Math.IntN.{*ℤ_comm}
use Rattle.suit_num.proofs.IntegerLaws.{mul_positive, int_lt-true, int_lt-false}
use Rattle.suit_linear.specs.Points.{number_at}
use Rattle.suit_linear.specs.Tableaus.{TableauRow, bound, entry}
use Rattle.suit_linear.specs.Pivots.{is_better, kept}
use Rattle.suit_linear.proofs.Multiples.{cross, order_scaled, equality_scaled}
use Rattle.suit_linear.proofs.Signs.{times_zero}
use Rattle.suit_linear_fast.specs.declared.lines.Line.{Line}
use Rattle.suit_linear_fast.specs.Lines.{IsShownBy, AreShown, chosen, is_better_line}

module _ (column : ℕ) (best : Line) (best_entry : ℤ) (best_row : TableauRow) (line : Line) (number : ℤ)
    (row : TableauRow) (is : IsShownBy column best best_entry best_row) (also : IsShownBy column line number row) where
  first_product : (is.left *ℤ also.left) *ℤ (line.bound *ℤ best_entry)
      ≡ (is.right *ℤ also.right) *ℤ (bound row *ℤ entry best_row column)
  first_product =
      ap (λ (z : ℤ). z *ℤ (line.bound *ℤ best_entry)) (*ℤ_comm is.left also.left)
      ∙ cross also.left is.left line.bound best_entry
      ∙ ap₂ (λ (y z : ℤ). y *ℤ z) also.bounds is.entries
      ∙ cross also.right (bound row) is.right (entry best_row column)
      ∙ ap (λ (z : ℤ). z *ℤ (bound row *ℤ entry best_row column)) (*ℤ_comm also.right is.right)

  second_product : (is.left *ℤ also.left) *ℤ (best.bound *ℤ number)
      ≡ (is.right *ℤ also.right) *ℤ (bound best_row *ℤ entry row column)
  second_product =
      cross is.left also.left best.bound number
      ∙ ap₂ (λ (y z : ℤ). y *ℤ z) is.bounds also.entries
      ∙ cross is.right (bound best_row) also.right (entry row column)

  pub better_shown : is_better_line best best_entry line number ≡ is_better column best_row row
  better_shown =
      let some = mul_positive is.left also.left is.left_positive also.left_positive in
      let more = mul_positive is.right also.right is.right_positive also.right_positive in
      ap₂ (λ (less same : Bool). less || (same && nat_lt line.basic best.basic))
      (order_scaled (is.left *ℤ also.left) (is.right *ℤ also.right) (line.bound *ℤ best_entry) (best.bound *ℤ number)
      (bound row *ℤ entry best_row column) (bound best_row *ℤ entry row column) some more first_product second_product)
      (equality_scaled (is.left *ℤ also.left) (is.right *ℤ also.right) (line.bound *ℤ best_entry)
      (best.bound *ℤ number) (bound row *ℤ entry best_row column) (bound best_row *ℤ entry row column) some more
      first_product second_product)
      ∙ ap₂ (λ (a b : ℕ). int_lt (bound row *ℤ entry best_row column) (bound best_row *ℤ entry row column)
      || (int_eq (bound row *ℤ entry best_row column) (bound best_row *ℤ entry row column) && nat_lt a b)) also.basic
      is.basic

sign_shown : (column : ℕ) (line : Line) (number : ℤ) (row : TableauRow) → IsShownBy column line number row
    → int_lt (pos 0) number ≡ int_lt (pos 0) (entry row column)
sign_shown column line number row is =
    order_scaled is.left is.right (pos 0) number (pos 0) (entry row column) is.left_positive is.right_positive
    (times_zero is.left (pos 0) refl ∙ sym (times_zero is.right (pos 0) refl)) is.entries

positive_test : (z : ℤ) → pos 0 <ℤ z → int_lt (pos 0) z ≡ true
positive_test z h = grind (arith, ints)

low_test : (z : ℤ) → z ≤ℤ pos 0 → int_lt (pos 0) z ≡ false
low_test z h = grind (arith, ints)

-- a row without a positive entry is passed over
pub line_passed : (column : ℕ) (line : Line) (number : ℤ) (row : TableauRow) → IsShownBy column line number row
    → number ≤ℤ pos 0 → (best : Option TableauRow) → kept column best row ≡ best
unfolding kept
line_passed column line number row is low None =
    ap (λ (b : Bool). cond b (Some row) None) (sym (sign_shown column line number row is) ∙ low_test number low)
line_passed column line number row is low (Some best) =
    ap (λ (b : Bool). cond (b && is_better column best row) (Some row) (Some best))
    (sym (sign_shown column line number row is) ∙ low_test number low)

-- the first row with a positive entry is kept
pub line_first : (column : ℕ) (line : Line) (number : ℤ) (row : TableauRow) → IsShownBy column line number row
    → pos 0 <ℤ number → kept column None row ≡ Some row
unfolding kept
line_first column line number row is some =
    ap (λ (b : Bool). cond b (Some row) None) (sym (sign_shown column line number row is) ∙ positive_test number some)

-- of two rows the better one is kept
pub line_kept : (column : ℕ) (best : Line) (best_entry : ℤ) (best_row : TableauRow) (line : Line) (number : ℤ)
    (row : TableauRow) → IsShownBy column best best_entry best_row → IsShownBy column line number row → pos 0 <ℤ number
    → kept column (Some best_row) row ≡ cond (is_better_line best best_entry line number) (Some row) (Some best_row)
unfolding kept
line_kept column best best_entry best_row line number row is also some =
    ap (λ (b : Bool). cond (b && is_better column best_row row) (Some row) (Some best_row))
    (sym (sign_shown column line number row also) ∙ positive_test number some)
    ∙ ap (λ (b : Bool). cond b (Some row) (Some best_row))
    (sym (better_shown column best best_entry best_row line number row is also))

-- ---- all lines

-- the best of so many lines is the row that is kept of so many rows
pub record IsKeptBest (lines : List Line) (entries : List ℤ) (count : ℕ) (best : Option ℕ) : Type 0 where
  pub within : ForSome best (λ leader. leader < length lines)
  pub kept_one : (column : ℕ) (rows : List TableauRow) → AreShown column lines entries rows
      → chosen rows best ≡ fold (kept column) None (take count rows)

pub none_kept : (lines : List Line) (entries : List ℤ) → IsKeptBest lines entries 0 None
none_kept lines entries = record { within = λ x e. absurd (cc); kept_one = λ column rows shown. refl }

fold_more : (f : Option TableauRow → TableauRow → Option TableauRow) (start : Option TableauRow)
    (rows : List TableauRow) (count : ℕ) (row : TableauRow) → slice_get rows count ≡ Some row
    → fold f start (take (count + 1) rows) ≡ f (fold f start (take count rows)) row
fold_more f start [] count row at = absurd (cc)
fold_more f start (first ∷ rows) zero row at = let is : first ≡ row = cc in ap (λ (r : TableauRow). f start r) is
fold_more f start (first ∷ rows) (suc count) row at =
    let e : suc count + 1 ≡ suc (count + 1) = omega arith in
    rw e (fold_more f (f start first) rows count row at)

pub one_kept : (lines : List Line) (entries : List ℤ) (count : ℕ) (best next : Option ℕ) → count < length lines
    → IsKeptBest lines entries count best → ForSome next (λ leader. leader < length lines)
    → ((column : ℕ) (rows : List TableauRow) (row : TableauRow) → AreShown column lines entries rows
    → slice_get rows count ≡ Some row → chosen rows next ≡ kept column (chosen rows best) row)
    → IsKeptBest lines entries (count + 1) next
one_kept lines entries count best next less h within step = record {
  within = within;
  kept_one = λ column rows shown.
      elim (slice_get_cases rows count).1 [
        | inl (row, inside, at, read) ↦
            step column rows row shown at
            ∙ ap (λ (o : Option TableauRow). kept column o row) (h.kept_one column rows shown)
            ∙ sym (fold_more (kept column) None rows count row at)
        | inr (past, none) ↦ let same = shown.count in absurd (omega arith)
      ];
}

pub all_kept : (lines : List Line) (entries : List ℤ) (count : ℕ) (best : Option ℕ) → length lines ≤ count
    → IsKeptBest lines entries count best → (column : ℕ) (rows : List TableauRow)
    → AreShown column lines entries rows → chosen rows best ≡ fold (kept column) None rows
all_kept lines entries count best past h column rows shown =
    h.kept_one column rows shown
    ∙ ap (fold (kept column) None) (take_all count rows (let same = shown.count in omega arith))

-- ---- the better of two

line_at : (lines : List Line) (rows : List TableauRow) (column : ℕ) (entries : List ℤ) (index : ℕ) (row : TableauRow)
    → AreShown column lines entries rows → slice_get rows index ≡ Some row → (other : Line)
    → IsShownBy column (get_or lines index other) (number_at entries index) row
line_at lines rows column entries index row shown at other =
    let inside : index < length rows = slice_get_within rows index row at in
    let same = shown.count in
    shown.each index (get_or lines index other) row (slice_get-get_or lines index other (omega arith)) at

not_positive : (z : ℤ) → int_lt (pos 0) z ≡ false → z ≤ℤ pos 0
not_positive z h = int_lt-false (pos 0) z h

module _ (lines : List Line) (entries : List ℤ) (index : ℕ) (other : Line) (column : ℕ) (rows : List TableauRow)
    (row : TableauRow) (shown : AreShown column lines entries rows) (at : slice_get rows index ≡ Some row) where
  here : IsShownBy column (get_or lines index other) (number_at entries index) row
  here = line_at lines rows column entries index row shown at other

  pub better_passed : int_lt (pos 0) (number_at entries index) ≡ false → (best : Option TableauRow)
      → best ≡ kept column best row
  better_passed none best = sym (line_passed column (get_or lines index other) (number_at entries index) row here
      (not_positive (number_at entries index) none) best)

  pub better_first : int_lt (pos 0) (number_at entries index) ≡ true → slice_get rows index ≡ kept column None row
  better_first some = at ∙ sym (line_first column (get_or lines index other) (number_at entries index) row here
      (int_lt-true (pos 0) (number_at entries index) some))

  pub better_chosen : (leader : ℕ) (b : Bool) → leader < length lines → int_lt (pos 0) (number_at entries index) ≡ true
      → b ≡ is_better_line (get_or lines leader other) (number_at entries leader) (get_or lines index other)
      (number_at entries index)
      → cond b (slice_get rows index) (slice_get rows leader) ≡ kept column (slice_get rows leader) row
  better_chosen leader b less some is =
      elim (slice_get_cases rows leader).1 [
        | inl (best, inside, there, read) ↦
            ap₂ (λ (x y : Option TableauRow). cond b x y) at there
            ∙ ap (λ (t : Bool). cond t (Some row) (Some best)) is
            ∙ sym (line_kept column (get_or lines leader other) (number_at entries leader) best
            (get_or lines index other) (number_at entries index) row
            (line_at lines rows column entries leader best shown there other) here
            (int_lt-true (pos 0) (number_at entries index) some))
            ∙ ap (λ (o : Option TableauRow). kept column o row) (sym there)
        | inr (past, none) ↦ let same = shown.count in absurd (omega arith)
      ]
