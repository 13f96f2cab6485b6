-- A pivot of a tableau of small numbers makes no number that is too wide (`next_small`).
use Rattle.std.proofs.Common.{◌≡◌, ℕ, zero, suc, ◌+◌, ◌*◌, ◌<◌, ◌≤◌, ◌^◌, Bool, true, false, ◌||◌, ◌&&◌, ◌==◌, List, []}
use Rattle.std.proofs.Common.{◌∷◌, All, refl, sym, ap, ◌∙◌, cond, Option, Some, None, arith, IsTrue}
use Rattle.std.specs.Prelude.{ℤ, pos, ◌-ℤ◌, ◌*ℤ◌, ◌<ℤ◌, int_lt, unsigned_abs}
use Rattle.std.specs.List.{list_all, flat_map}
use Rattle.std.specs.Ordering.{int_eq}
use Rattle.std.proofs.lemmas.Int.{ints, unsigned_abs-mul}
use Rattle.std.proofs.lemmas.List.Elements.{All-cons, All-head, All-tail, All-contains}
use Rattle.std.proofs.Math.Nat.{mul-le-mul_right, mul_comm}
use Rattle.suit_num.specs.Divisors.{gcd_of}
use Rattle.suit_num.specs.Narrow.{IsNarrow}
use Rattle.suit_linear.specs.declared.limits.TheConstants.{MOST_SMALL}
use Rattle.suit_linear.specs.Points.{number_at}
use Rattle.suit_linear.specs.Tableaus.{TableauRow, Tableau, bound, entry, reduced_cost}
use Rattle.suit_linear.specs.Pivots.{kept, compared, compared_pair, ratio_products, combining, combining_at, clearing}
use Rattle.suit_linear.specs.Pivots.{share, pivoting_row, changing, entering, leaving, pivoted, is_better, is_narrow}
use Rattle.suit_linear.specs.Runs.{To, next}
use Rattle.suit_linear.specs.Multiples.{IsSmall, IsSmallTableau}
use Rattle.suit_linear.proofs.ClearingByGcd.{gcd_positive, share_whole, share_other}
use Rattle.suit_linear.proofs.CombinationByIndex.{test_append, both_true, combines}
use Rattle.suit_linear.proofs.RatioTestByRow.{pair_narrow}
use Rattle.suit_linear.proofs.RatioTest.{leaving_is_row}
use Rattle.suit_linear.proofs.RunSteps.{next_to}

-- ---- sizes

product_low : (m n k l : ℕ) → m ≤ k → n ≤ l → m * n ≤ k * l
product_low m n k l h g =
    let first : m * n ≤ k * n = mul-le-mul_right n h in
    let second : n * k ≤ l * k = mul-le-mul_right k g in
    let turned : k * n ≤ k * l = rw (mul_comm k n, mul_comm k l) second in
    omega arith

size-difference : (a b : ℤ) → unsigned_abs (a -ℤ b) ≤ unsigned_abs a + unsigned_abs b
size-difference a b = omega (arith, ints)

-- a row that is changed by factors has at most the sizes times the factors
pub changed_size : (own x times y : ℤ) (size other : ℕ) → unsigned_abs x ≤ size → unsigned_abs y ≤ other
    → unsigned_abs (own *ℤ x -ℤ times *ℤ y) ≤ unsigned_abs own * size + unsigned_abs times * other
changed_size own x times y size other h k =
    let first : unsigned_abs (own *ℤ x) ≤ unsigned_abs own * size =
    rw (unsigned_abs-mul own x)
    (product_low (unsigned_abs own) (unsigned_abs x) (unsigned_abs own) size (low (unsigned_abs own)) h) in
    let second : unsigned_abs (times *ℤ y) ≤ unsigned_abs times * other =
    rw (unsigned_abs-mul times y)
    (product_low (unsigned_abs times) (unsigned_abs y) (unsigned_abs times) other (low (unsigned_abs times))
    k) in
    let both = size-difference (own *ℤ x) (times *ℤ y) in
    omega arith
  where
    low : (n : ℕ) → n ≤ n
    low n = omega arith

small_product : (a b : ℤ) → IsSmall a → IsSmall b → unsigned_abs (a *ℤ b) ≤ MOST_SMALL * MOST_SMALL
small_product a b h k = rw (unsigned_abs-mul a b) (product_low (unsigned_abs a) (unsigned_abs b) MOST_SMALL MOST_SMALL h k)

small_narrow : (n : ℕ) → n ≤ MOST_SMALL * MOST_SMALL → n < 2 ^ 127
small_narrow n h = omega arith

product_narrow : (a b : ℤ) → IsSmall a → IsSmall b → IsNarrow (a *ℤ b)
product_narrow a b h k = small_narrow (unsigned_abs (a *ℤ b)) (small_product a b h k)

difference_fits : (a b c d : ℤ) → IsSmall a → IsSmall b → IsSmall c → IsSmall d → IsNarrow (a *ℤ b -ℤ c *ℤ d)
difference_fits a b c d h k l m =
    by_sizes (unsigned_abs (a *ℤ b -ℤ c *ℤ d)) (unsigned_abs (a *ℤ b)) (unsigned_abs (c *ℤ d))
    (size-difference (a *ℤ b) (c *ℤ d)) (small_product a b h k) (small_product c d l m)
  where
    by_sizes : (n p q : ℕ) → n ≤ p + q → p ≤ MOST_SMALL * MOST_SMALL → q ≤ MOST_SMALL * MOST_SMALL → n < 2 ^ 127
    by_sizes n p q e f g = omega arith

pub small_zero : IsSmall (pos 0)
small_zero = omega arith

pub small_number : (numbers : List ℤ) (index : ℕ) → All IsSmall numbers → IsSmall (number_at numbers index)
small_number [] index h = small_zero
small_number (x ∷ xs) zero h = All-head IsSmall x xs h
small_number (x ∷ xs) (suc index) h = small_number xs index (All-tail IsSmall x xs h)

quotient_low : (q g a : ℤ) → pos 0 <ℤ g → q *ℤ g ≡ a → unsigned_abs q ≤ unsigned_abs a
quotient_low q g a some e =
    let whole : unsigned_abs q * unsigned_abs g ≡ unsigned_abs a = sym (unsigned_abs-mul q g) ∙ ap unsigned_abs e in
    by_sizes (unsigned_abs q) (unsigned_abs g) (unsigned_abs a) (size_positive g some) whole
  where
    size_positive : (z : ℤ) → pos 0 <ℤ z → 0 < unsigned_abs z
    size_positive z h = omega (arith, ints)

    by_sizes : (m n k : ℕ) → 0 < n → m * n ≡ k → m ≤ k
    by_sizes m zero k h e = absurd (omega arith)
    by_sizes m (suc n) k h e = omega (arith, e)

small_share : (p t : ℤ) → pos 0 <ℤ p → IsSmall p → IsSmall (share p t)
small_share p t some h =
    let low = quotient_low (share p t) (pos (gcd_of (unsigned_abs p) (unsigned_abs t))) p (gcd_positive p t some)
    (share_whole p t some) in
    omega arith

small_other : (p t : ℤ) → pos 0 <ℤ p → IsSmall t → IsSmall (share t p)
small_other p t some h =
    let low = quotient_low (share t p) (pos (gcd_of (unsigned_abs p) (unsigned_abs t))) t (gcd_positive p t some)
    (share_other p t some) in
    omega arith

-- ---- the ratio test

abbrev SmallRow : TableauRow → Type 0
SmallRow row = All IsSmall row.numbers

abbrev SmallChoice : Option TableauRow → Type 0
SmallChoice None = Unit {0}
SmallChoice (Some row) = SmallRow row

choice : (b : Bool) (x y : Option TableauRow) → SmallChoice x → SmallChoice y → SmallChoice (cond b x y)
choice true x y h k = h
choice false x y h k = k

small_kept : (column : ℕ) (best : Option TableauRow) (row : TableauRow) → SmallChoice best → SmallRow row
    → SmallChoice (kept column best row)
unfolding kept
small_kept column None row h k = choice (int_lt (pos 0) (entry row column)) (Some row) None k tt
small_kept column (Some best) row h k =
    choice (int_lt (pos 0) (entry row column) && is_better column best row) (Some row) (Some best) k h

pair_fits : (column : ℕ) (best row : TableauRow) → SmallRow best → SmallRow row
    → IsTrue (list_all is_narrow (compared_pair column best row))
pair_fits column best row h k =
    pair_narrow (bound row *ℤ entry best column) (bound best *ℤ entry row column)
    (product_narrow (bound row) (entry best column) (small_number row.numbers 0 k)
    (small_number best.numbers (suc column) h))
    (product_narrow (bound best) (entry row column) (small_number best.numbers 0 h)
    (small_number row.numbers (suc column) k))

compared_fits : (column : ℕ) (best : Option TableauRow) (row : TableauRow) → SmallChoice best → SmallRow row
    → list_all is_narrow (compared column best row) ≡ true
unfolding compared
compared_fits column None row h k = refl
compared_fits column (Some best) row h k = by_test (int_lt (pos 0) (entry row column))
  where
    by_test : (b : Bool) → list_all is_narrow (cond b (compared_pair column best row) []) ≡ true
    by_test true = pair_fits column best row h k
    by_test false = refl

ratio_fits : (column : ℕ) (best : Option TableauRow) (rows : List TableauRow) → SmallChoice best → All SmallRow rows
    → list_all is_narrow (ratio_products column best rows) ≡ true
unfolding ratio_products
ratio_fits column best [] h k = refl
ratio_fits column best (row ∷ rows) h k =
    test_append (compared column best row) (ratio_products column (kept column best row) rows)
    ∙ both_true (list_all is_narrow (compared column best row))
    (list_all is_narrow (ratio_products column (kept column best row) rows))
    (compared_fits column best row h (All-head SmallRow row rows k))
    (ratio_fits column (kept column best row) rows (small_kept column best row h (All-head SmallRow row rows k))
    (All-tail SmallRow row rows k))

-- ---- the changes

combining_fits : (own : ℤ) (xs : List ℤ) (other : ℤ) (ys : List ℤ) → IsSmall own → IsSmall other → All IsSmall xs
    → All IsSmall ys → list_all is_narrow (combining own xs other ys) ≡ true
unfolding combining
combining_fits own [] other ys h k l m = refl
combining_fits own (x ∷ xs) other [] h k l m = refl
combining_fits own (x ∷ xs) other (y ∷ ys) h k l m =
    let x_small : IsSmall x = All-head IsSmall x xs l in
    let y_small : IsSmall y = All-head IsSmall y ys m in
    test_append (combining_at own x other y) (combining own xs other ys)
    ∙ both_true (list_all is_narrow (combining_at own x other y)) (list_all is_narrow (combining own xs other ys))
    (combines own x other y (product_narrow own x h x_small) (product_narrow other y k y_small)
    (difference_fits own x other y h x_small k y_small))
    (combining_fits own xs other ys h k (All-tail IsSmall x xs l) (All-tail IsSmall y ys m))

clearing_fits : (p t : ℤ) (numbers leaver : List ℤ) → pos 0 <ℤ p → IsSmall p → IsSmall t → All IsSmall numbers
    → All IsSmall leaver → list_all is_narrow (clearing p t numbers leaver) ≡ true
clearing_fits p t numbers leaver some h k l m =
    combining_fits (share p t) numbers (share t p) leaver (small_share p t some h) (small_other p t some k) l m

module _ (column : ℕ) (leaver : TableauRow) (some : pos 0 <ℤ entry leaver column) (small : SmallRow leaver) where
  row_fits : (row : TableauRow) → SmallRow row → list_all is_narrow (pivoting_row column leaver row) ≡ true
  unfolding pivoting_row
  row_fits row h = by_test (row.basic == leaver.basic || int_eq (entry row column) (pos 0))
    where
      by_test : (b : Bool) → list_all is_narrow
          (cond b [] (clearing (entry leaver column) (entry row column) row.numbers leaver.numbers)) ≡ true
      by_test true = refl
      by_test false = clearing_fits (entry leaver column) (entry row column) row.numbers leaver.numbers some
          (small_number leaver.numbers (suc column) small) (small_number row.numbers (suc column) h) h small

  rows_fit : (rows : List TableauRow) → All SmallRow rows
      → list_all is_narrow (flat_map (pivoting_row column leaver) rows) ≡ true
  rows_fit [] h = refl
  rows_fit (row ∷ rows) h =
      test_append (pivoting_row column leaver row) (flat_map (pivoting_row column leaver) rows)
      ∙ both_true (list_all is_narrow (pivoting_row column leaver row))
      (list_all is_narrow (flat_map (pivoting_row column leaver) rows))
      (row_fits row (All-head SmallRow row rows h)) (rows_fit rows (All-tail SmallRow row rows h))

  -- no number of the changes is too wide
  pub changing_fits : (tableau : Tableau) → IsSmallTableau tableau
      → IsTrue (list_all is_narrow (changing tableau column leaver))
  unfolding changing
  changing_fits tableau h =
      test_append (flat_map (pivoting_row column leaver) tableau.rows)
      (clearing (entry leaver column) (reduced_cost tableau column) tableau.objective (pos 0 ∷ leaver.numbers))
      ∙ both_true (list_all is_narrow (flat_map (pivoting_row column leaver) tableau.rows))
      (list_all is_narrow (clearing (entry leaver column) (reduced_cost tableau column) tableau.objective (pos 0
      ∷ leaver.numbers))) (rows_fit tableau.rows h.rows)
      (clearing_fits (entry leaver column) (reduced_cost tableau column) tableau.objective (pos 0
      ∷ leaver.numbers) some (small_number leaver.numbers (suc column) small)
      (small_number tableau.objective (suc (suc column)) h.objective) h.objective
      (All-cons IsSmall (pos 0) leaver.numbers small_zero small))

-- ---- the next tableau

-- where all numbers are small, the pivot is made
pub next_small : (tableau : Tableau) (column : ℕ) (leaver : TableauRow) → IsSmallTableau tableau
    → entering tableau ≡ Some column → leaving tableau column ≡ Some leaver
    → next tableau ≡ To (pivoted tableau column leaver)
next_small tableau column leaver h enters leaves =
    let is = leaving_is_row tableau column leaver leaves in
    next_to tableau column leaver enters leaves (ratio_fits column None tableau.rows tt h.rows)
    (changing_fits column leaver is.1 (All-contains SmallRow tableau.rows leaver h.rows is.0) tableau h)
