-- The row in which a column is basic, by its index (`basic_value`).
use Rattle.std.proofs.Common.{◌≡◌, ℕ, zero, suc, ◌+◌, ◌<◌, ◌≤◌, Bool, true, false, List, [], ◌∷◌, length, get_or, refl}
use Rattle.std.proofs.Common.{sym, ap, ◌∙◌, Some, None, arith, cond, inl, inr, ◌++◌, length-append, eqb-true}
use Rattle.std.specs.Prelude.{ℤ, pos, ◌*ℤ◌, ◌==◌, find, position, slice_get, nat_lt}
use Rattle.std.specs.List.{position_or_len}
use Rattle.suit_num.specs.declared.fraction.Frac.{Frac}
use Rattle.suit_linear.specs.Tableaus.{TableauRow, bound, entry}
use Rattle.suit_linear.specs.Ends.{IsBasicValue}
use Rattle.suit_simplex.specs.Dense.{row_at, seen}
use Rattle.suit_simplex.specs.declared.dense.Dense.{Dense}
use Rattle.suit_simplex.proofs.RatioTestByIndex.{seen_row, length-seen}
use Rattle.suit_num.proofs.IntegerLaws.{mul-one}
use Rattle.std.proofs.Math.IntN.{zero-*ℤ}
use Rattle.std.proofs.lemmas.Bool.{cases_eq}
use Rattle.std.proofs.lemmas.Bool.Decides.{nat_tests}
use Rattle.std.proofs.lemmas.List.Folds.{find_at}
use Rattle.std.proofs.lemmas.List.Quantifiers.{position-Some}
use Rattle.std.proofs.lemmas.List.Sums.{position_or_len_is, fails_before_first}
use Rattle.std.proofs.lemmas.Option.{get_or_from_slice_get, slice_get_past, slice_get_within}

row_read : (dense : Dense) (index : ℕ) (d : TableauRow) → index < length dense.basics.items
    → get_or (seen dense).rows index d ≡ row_at dense index
row_read dense index d less =
    get_or_from_slice_get (seen dense).rows index (row_at dense index) d (seen_row dense index less)

tested : ℕ → TableauRow → Bool
tested column row = row.basic == column

tested_at : (dense : Dense) (column index : ℕ) (d : TableauRow) (b : Bool) → index < length dense.basics.items
    → (get_or dense.basics.items index 0 == column) ≡ b → tested column (get_or (seen dense).rows index d) ≡ b
unfolding tested
tested_at dense column index d b less h = ap (λ (row : TableauRow). row.basic == column) (row_read dense index d less)
    ∙ h

find_tested : (dense : Dense) (column index : ℕ) → position_or_len (tested column) (seen dense).rows ≡ index
    → find (λ row. row.basic == column) (seen dense).rows ≡ slice_get (seen dense).rows index
unfolding tested
find_tested dense column index e = find_at (λ (row : TableauRow). row.basic == column) (seen dense).rows
    ∙ ap (slice_get (seen dense).rows) e

-- the row of a column stands where the column stands among the basic columns
pub found_row_at : (dense : Dense) (column index : ℕ)
    → position (λ basic. basic == column) dense.basics.items ≡ Some index → (index < length dense.basics.items)
    × (find (λ row. row.basic == column) (seen dense).rows ≡ Some (row_at dense index))
    × ((row_at dense index).basic ≡ column)
found_row_at dense column index h =
    let is = position-Some (λ (basic : ℕ). basic == column) dense.basics.items index 0 h in
    let d : TableauRow = row_at dense index in
    let first : position_or_len (tested column) (seen dense).rows ≡ index =
    position_or_len_is (tested column) (seen dense).rows index d (omega (arith, is.0, length-seen dense))
    (λ k less. tested_at dense column k d false (omega (arith, is.0)) (is.2 k less))
    (λ less. tested_at dense column index d true is.0 is.1) in (
      is.0,
      find_tested dense column index first
          ∙ seen_row dense index is.0,
      eqb-true (get_or dense.basics.items index 0) column is.1,
    )

missed : (less : Bool) (index : ℕ) → cond less (Some index) None ≡ None → less ≡ false
missed true index e = absurd (cc)
missed false index e = refl

-- and there is none where the column is not basic
pub found_none : (dense : Dense) (column : ℕ) → position (λ basic. basic == column) dense.basics.items ≡ None
    → find (λ row. row.basic == column) (seen dense).rows ≡ None
found_none dense column h =
    let p : ℕ → Bool = λ basic. basic == column in
    let past : nat_lt (position_or_len p dense.basics.items) (length dense.basics.items) ≡ false = missed _ _ h in
    let all : length dense.basics.items ≤ position_or_len p dense.basics.items = grind (arith, nat_tests) in
    let d : TableauRow = row_at dense 0 in
    let first : position_or_len (tested column) (seen dense).rows ≡ length (seen dense).rows =
    position_or_len_is (tested column) (seen dense).rows (length (seen dense).rows) d (omega arith)
    (λ k less. tested_at dense column k d false (omega (arith, length-seen dense))
    (fails_before_first p dense.basics.items k 0 (omega (arith, length-seen dense))))
    (λ less. absurd (omega arith)) in
    find_tested dense column (length (seen dense).rows) first
    ∙ slice_get_past (seen dense).rows (length (seen dense).rows) (omega arith)

-- ---- the values of the columns

pub basic_value : (dense : Dense) (column index : ℕ) (part : Frac) (b e : ℤ)
    → find (λ row. row.basic == column) (seen dense).rows ≡ Some (row_at dense index) → b ≡ bound (row_at dense index)
    → e ≡ entry (row_at dense index) column → part.num *ℤ e ≡ b *ℤ part.den
    → IsBasicValue column (find (λ row. row.basic == column) (seen dense).rows) part
basic_value dense column index part b e found is_b is_e h = rw found (rw (is_b, is_e) at h)

pub free_value : (dense : Dense) (column : ℕ) (part : Frac) → find (λ row. row.basic == column) (seen dense).rows ≡ None
    → part.num *ℤ pos 1 ≡ pos 0 *ℤ part.den
    → IsBasicValue column (find (λ row. row.basic == column) (seen dense).rows) part
free_value dense column part found h = rw found (sym (mul-one part.num) ∙ h ∙ zero-*ℤ part.den)

-- the values of the columns below one are read
pub record IsReadBelow (dense : Dense) (point : List Frac) (column : ℕ) : Type 0 where
  pub count : length point ≡ column
  pub values : (k : ℕ) (part : Frac) → slice_get point k ≡ Some part
      → IsBasicValue k (find (λ row. row.basic == k) (seen dense).rows) part

pub nothing_read : (dense : Dense) (point : List Frac) → point ≡ [] → IsReadBelow dense point 0
nothing_read dense point e = record {
  count = ap length e;
  values = λ k part h. absurd (cc (ap (λ (xs : List Frac). slice_get xs k) e));
}

pub one_read : (dense : Dense) (point next : List Frac) (column : ℕ) (value : Frac) → IsReadBelow dense point column
    → IsBasicValue column (find (λ row. row.basic == column) (seen dense).rows) value → next ≡ point ++ value ∷ []
    → IsReadBelow dense next (column + 1)
one_read dense point next column value before is e = record {
  count = ap length e ∙ length-append point (value ∷ []) ∙ omega (arith, before.count);
  values = λ k part h.
      elim (cases_eq k column) as (λ _. IsBasicValue k (find (λ row. row.basic == k) (seen dense).rows) part) [
        | inl same ↦
            let at_end : slice_get (point ++ value ∷ []) k ≡ Some value =
            got_at_end point value k (same ∙ sym before.count) in
            let part_is : part ≡ value = some_same part value (sym h ∙ ap (λ (xs : List Frac). slice_get xs k) e
            ∙ at_end) in
            rw (part_is, same) is
        | inr other ↦
            before.values k part (sym (got_before point value k (omega (
              arith,
              slice_get_within next k part h,
              ap length e,
              length-append point (value ∷ []),
              before.count,
            )))
            ∙ ap (λ (xs : List Frac). slice_get xs k) (sym e) ∙ h)
      ];
}
  where
    some_same : (x y : Frac) → Some x ≡ Some y → x ≡ y
    some_same x y e = cc

    got_at_end : (xs : List Frac) (x : Frac) (k : ℕ) → k ≡ length xs → slice_get (xs ++ x ∷ []) k ≡ Some x
    got_at_end [] x zero e = refl
    got_at_end [] x (suc k) e = absurd (omega (arith, e))
    got_at_end (y ∷ ys) x zero e = absurd (omega (arith, e))
    got_at_end (y ∷ ys) x (suc k) e = got_at_end ys x k (omega (arith, e))

    got_before : (xs : List Frac) (x : Frac) (k : ℕ) → k < length xs → slice_get (xs ++ x ∷ []) k ≡ slice_get xs k
    got_before [] x k less = absurd (omega arith)
    got_before (y ∷ ys) x zero less = refl
    got_before (y ∷ ys) x (suc k) less = got_before ys x k (omega arith)
