-- A pivot, row after row (`objective_pivoted`).
use Rattle.std.proofs.Common.{◌≡◌, ◌≢◌, ℕ, zero, suc, ◌+◌, ◌<◌, ◌≤◌, Bool, true, false, ◌&&◌, List, [], ◌∷◌, ◌++◌}
use Rattle.std.proofs.Common.{length, map, take, drop, set, refl, sym, ap, ap₂, ◌∙◌, subst, Some, arith, IsTrue}
use Rattle.std.proofs.Common.{add-one}
use Rattle.std.specs.Prelude.{ℤ, pos, slice_get, ◌↔◌}
use Rattle.std.proofs.lemmas.List.{take_all}
use Rattle.suit_linear.specs.Points.{number_at}
use Rattle.std.specs.List.{list_all, flat_map}
use Rattle.suit_linear.specs.Tableaus.{TableauRow, Tableau, entry, reduced_cost}
use Rattle.suit_linear.specs.Pivots.{cleared, clearing, pivoted_row, pivoting_row, pivoted, changing, is_narrow}
use Rattle.suit_simplex.specs.Dense.{row_at, leaver_row, seen, with_row, IsKept, KeepsShape, CanPivot, CanClear}
use Rattle.suit_simplex.specs.declared.dense.Dense.{Dense}
use Rattle.suit_linear.proofs.CombinationByIndex.{test_append, both_true, first_true, second_true}
use Rattle.suit_simplex.proofs.RatioTestByIndex.{seen_row, length-seen}
use Rattle.suit_lists.proofs.Indices.{contains_at}
use Rattle.suit_lists.proofs.Walks.{half, half_all, half_at, half_more, half_none}

-- the test of what the rows up to an index make
pub fits_to : (f : TableauRow → List ℤ) → ℕ → List TableauRow → Bool
fits_to f index rows = list_all is_narrow (flat_map f (take index rows))

fits_more : (f : TableauRow → List ℤ) (rows : List TableauRow) (index : ℕ) (row : TableauRow)
    → slice_get rows index ≡ Some row → fits_to f (suc index) rows ≡ fits_to f index rows && list_all is_narrow (f row)
unfolding fits_to
fits_more f [] index row e = absurd (cc)
fits_more f (y ∷ ys) zero row e =
    let same : y ≡ row = cc in
    test_append (f y) [] ∙ and_true (list_all is_narrow (f y)) ∙ ap (λ (z : TableauRow). list_all is_narrow (f z)) same
  where
    and_true : (b : Bool) → b && true ≡ b
    and_true true = refl
    and_true false = refl
fits_more f (y ∷ ys) (suc index) row e =
    test_append (f y) (flat_map f (take (suc index) ys))
    ∙ ap (λ (b : Bool). list_all is_narrow (f y) && b) (fits_more f ys index row e)
    ∙ regroup (list_all is_narrow (f y)) (fits_to f index ys) (list_all is_narrow (f row))
    ∙ ap (λ (b : Bool). b && list_all is_narrow (f row)) (sym (test_append (f y) (flat_map f (take index ys))))
  where
    regroup : (a b c : Bool) → a && (b && c) ≡ a && b && c
    regroup true b c = refl
    regroup false b c = refl

-- where one row does not fit, not all do
fits_front : (f : TableauRow → List ℤ) (rows : List TableauRow) (index : ℕ) (row : TableauRow)
    → slice_get rows index ≡ Some row → IsTrue (list_all is_narrow (flat_map f rows))
    → IsTrue (list_all is_narrow (f row))
fits_front f [] index row e h = absurd (cc)
fits_front f (y ∷ ys) zero row e h =
    let same : y ≡ row = cc in
    rw (← same) (first_true (list_all is_narrow (f y)) (list_all is_narrow (flat_map f ys))
    (sym (test_append (f y) (flat_map f ys)) ∙ h))
fits_front f (y ∷ ys) (suc index) row e h =
    fits_front f ys index row e (second_true (list_all is_narrow (f y)) (list_all is_narrow (flat_map f ys))
    (sym (test_append (f y) (flat_map f ys)) ∙ h))

-- ---- the rows of a tableau

-- the tableau `now` has come out of `was` by the pivot up to an index
pub record IsPivotedBelow (was now : Dense) (column : ℕ) (leaver : TableauRow) (index : ℕ) : Type 0 where
  pub kept : IsKept now
  pub width : now.width ≡ was.width
  pub count : length now.basics.items ≡ length was.basics.items
  pub leaver_is : now.leaver.items ≡ pos 0 ∷ leaver.numbers
  pub rows : (seen now).rows ≡ half (pivoted_row column leaver) index (seen was).rows
  pub objective : (seen now).objective ≡ (seen was).objective
  pub fits : IsTrue (fits_to (pivoting_row column leaver) index (seen was).rows)

pub none_pivoted : (was now : Dense) (column : ℕ) (leaver : TableauRow) → IsKept now → seen now ≡ seen was
    → length now.basics.items ≡ length was.basics.items → now.width ≡ was.width
    → now.leaver.items ≡ pos 0 ∷ leaver.numbers → IsPivotedBelow was now column leaver 0
unfolding fits_to
none_pivoted was now column leaver kept same count width is = record {
  kept = kept;
  width = width;
  count = count;
  leaver_is = is;
  rows = ap (λ (t : Tableau). t.rows) same ∙ half_none (pivoted_row column leaver) (seen was).rows;
  objective = ap (λ (t : Tableau). t.objective) same;
  fits = refl;
}

some_same : (x y : TableauRow) → Some x ≡ Some y → x ≡ y
some_same x y e = cc

-- the row at the index is still as it was
pub row_still : (was now : Dense) (column : ℕ) (leaver : TableauRow) (index : ℕ) → index < length was.basics.items
    → IsPivotedBelow was now column leaver index → row_at now index ≡ row_at was index
row_still was now column leaver index less before =
    some_same (row_at now index) (row_at was index) (
    sym (seen_row now index (omega (arith, before.count)))
    ∙ ap (λ (rows : List TableauRow). slice_get rows index) before.rows
    ∙ half_at (pivoted_row column leaver) (seen was).rows index
    ∙ seen_row was index less
    )

-- the copy of the leaving row is the leaving row
pub copy_is : (was now : Dense) (column : ℕ) (leaver : TableauRow) (index : ℕ)
    → IsPivotedBelow was now column leaver index → leaver_row now leaver.basic ≡ leaver
copy_is was now column leaver index before =
    ap (λ (numbers : List ℤ). let r : TableauRow = record { basic = leaver.basic; numbers = drop 1 numbers } in
    r) before.leaver_is

pub one_pivoted : (was now next : Dense) (column : ℕ) (leaver : TableauRow) (index : ℕ)
    → index < length was.basics.items → IsPivotedBelow was now column leaver index
    → IsTrue (list_all is_narrow (pivoting_row column (leaver_row now leaver.basic) (row_at now index)))
    → seen next ≡ with_row (seen now) index (pivoted_row column (leaver_row now leaver.basic) (row_at now index))
    → IsKept next → KeepsShape now next → IsPivotedBelow was next column leaver (index + 1)
one_pivoted was now next column leaver index less before fits is kept shape =
    let still : row_at now index ≡ row_at was index = row_still was now column leaver index less before in
    let copy : leaver_row now leaver.basic ≡ leaver = copy_is was now column leaver index before in
    let changed : seen next ≡ with_row (seen now) index (pivoted_row column leaver (row_at was index)) = is
    ∙ ap₂ (λ (l r : TableauRow). with_row (seen now) index (pivoted_row column l r)) copy still in
    let here : IsTrue (list_all is_narrow (pivoting_row column leaver (row_at was index))) = rw (copy, still) at fits in
    record {
      kept = kept;
      width = shape.width ∙ before.width;
      count = shape.count ∙ before.count;
      leaver_is = shape.leaver ∙ before.leaver_is;
      rows = rw add-one (
          ap (λ (t : Tableau). t.rows) changed
          ∙ ap (λ (rows : List TableauRow). set rows index (pivoted_row column leaver (row_at was index))) before.rows
          ∙ half_more (pivoted_row column leaver) (seen was).rows index (row_at was index) (seen_row was index less)
          );
      objective = ap (λ (t : Tableau). t.objective) changed ∙ before.objective;
      fits = rw add-one (fits_more (pivoting_row column leaver) (seen was).rows index (row_at was index)
          (seen_row was index less)
          ∙ both_true (fits_to (pivoting_row column leaver) index (seen was).rows)
          (list_all is_narrow (pivoting_row column leaver (row_at was index))) before.fits here);
    }

-- where a row does not fit, the pivot does not
pub row_not_fitting : (was now : Dense) (column : ℕ) (leaver : TableauRow) (index : ℕ) → index < length was.basics.items
    → IsPivotedBelow was now column leaver index
    → ¬ IsTrue (list_all is_narrow (pivoting_row column (leaver_row now leaver.basic) (row_at now index)))
    → ¬ IsTrue (list_all is_narrow (changing (seen was) column leaver))
unfolding changing
row_not_fitting was now column leaver index less before refused all =
    let still : row_at now index ≡ row_at was index = row_still was now column leaver index less before in
    let copy : leaver_row now leaver.basic ≡ leaver = copy_is was now column leaver index before in
    let rows : IsTrue (list_all is_narrow (flat_map (pivoting_row column leaver) (seen was).rows)) =
    first_true (list_all is_narrow (flat_map (pivoting_row column leaver) (seen was).rows)) _
    (sym (test_append (flat_map (pivoting_row column leaver) (seen was).rows) _) ∙ all) in
    refused (rw (copy, still) (fits_front (pivoting_row column leaver) (seen was).rows index (row_at was index)
    (seen_row was index less) rows))

-- after the last row only the objective row is left
pub record IsObjectiveLeft (was now : Dense) (column : ℕ) (leaver : TableauRow) : Type 0 where
  pub rows : (seen now).rows ≡ map (pivoted_row column leaver) (seen was).rows
  pub objective : (seen now).objective ≡ (seen was).objective
  pub leaver_is : now.leaver.items ≡ pos 0 ∷ leaver.numbers
  pub fits : IsTrue (list_all is_narrow (flat_map (pivoting_row column leaver) (seen was).rows))

pub rows_pivoted : (was now : Dense) (column : ℕ) (leaver : TableauRow) (index : ℕ) → length was.basics.items ≤ index
    → IsPivotedBelow was now column leaver index → IsObjectiveLeft was now column leaver
unfolding fits_to
rows_pivoted was now column leaver index past before =
    let all : length (seen was).rows ≤ index = omega (arith, length-seen was) in
    record {
      rows = before.rows ∙ half_all (pivoted_row column leaver) (seen was).rows index all;
      objective = before.objective;
      leaver_is = before.leaver_is;
      fits = ap (λ (rows : List TableauRow). list_all is_narrow (flat_map (pivoting_row column leaver) rows))
          (sym (take_all index (seen was).rows all)) ∙ before.fits;
    }

-- the row at the index can be cleared
pub row_can_clear : (was now : Dense) (column : ℕ) (leaver : TableauRow) (index : ℕ) → index < length was.basics.items
    → IsPivotedBelow was now column leaver index → CanPivot (seen was) column leaver
    → (row_at now index).basic ≢ leaver.basic
    → CanClear (entry (leaver_row now leaver.basic) column) (entry (row_at now index) column) (row_at now index).numbers
    (leaver_row now leaver.basic).numbers
row_can_clear was now column leaver index less before can apart =
    let still : row_at now index ≡ row_at was index = row_still was now column leaver index less before in
    let copy : leaver_row now leaver.basic ≡ leaver = copy_is was now column leaver index before in
    let other : (row_at was index).basic ≢ leaver.basic = λ e. apart (ap (λ (r : TableauRow). r.basic) still ∙ e) in
    subst (λ (r : TableauRow). CanClear (entry (leaver_row now leaver.basic) column) (entry r column) r.numbers
    (leaver_row now leaver.basic).numbers) (sym still)
    (subst (λ (l : TableauRow). CanClear (entry l column) (entry (row_at was index) column) (row_at was index).numbers
    l.numbers) (sym copy)
    (can.rows (row_at was index) (contains_at (seen was).rows index (row_at was index) (seen_row was index less))
    other))

-- the leaving row's entry, and the objective row, are still as they were
pub pivot_still : (was now : Dense) (column : ℕ) (leaver : TableauRow) → now.leaver.items ≡ pos 0 ∷ leaver.numbers
    → entry (leaver_row now 0) column ≡ entry leaver column
pivot_still was now column leaver is = ap (λ (numbers : List ℤ). number_at (drop 1 numbers) (suc column)) is

pub objective_can_clear : (was now : Dense) (column : ℕ) (leaver : TableauRow) (index : ℕ)
    → IsPivotedBelow was now column leaver index → CanPivot (seen was) column leaver
    → CanClear (entry (leaver_row now 0) column) (reduced_cost (seen now) column) (seen now).objective now.leaver.items
objective_can_clear was now column leaver index before can =
    rw (pivot_still was now column leaver before.leaver_is, before.objective, before.leaver_is) can.objective

pub objective_fits : {P : Type 0} (was now : Dense) (column : ℕ) (leaver : TableauRow)
    → IsObjectiveLeft was now column leaver → P
    ↔ IsTrue (list_all is_narrow
    (clearing (entry (leaver_row now 0) column) (reduced_cost (seen now) column) (seen now).objective now.leaver.items))
    → P ↔ IsTrue (list_all is_narrow (changing (seen was) column leaver))
unfolding changing
objective_fits was now column leaver left says =
    let is = rw (pivot_still was now column leaver left.leaver_is, left.objective, left.leaver_is) at says in
    let split = test_append (flat_map (pivoting_row column leaver) (seen was).rows)
    (clearing (entry leaver column) (reduced_cost (seen was) column) (seen was).objective (pos 0
    ∷ leaver.numbers)) in (
      λ t. split ∙ both_true (list_all is_narrow (flat_map (pivoting_row column leaver) (seen was).rows)) _ left.fits
          (is.0 t),
      λ all. is.1 (second_true (list_all is_narrow (flat_map (pivoting_row column leaver) (seen was).rows)) _ (sym split
          ∙ all)),
    )

pub objective_pivoted : (was now next : Dense) (column : ℕ) (leaver : TableauRow)
    → IsObjectiveLeft was now column leaver
    → seen next ≡ record (seen now) {
      objective = cleared (entry (leaver_row now 0) column) (reduced_cost (seen now) column) (seen now).objective
          now.leaver.items;
    } → seen next ≡ pivoted (seen was) column leaver
unfolding pivoted
objective_pivoted was now next column leaver left is =
    is ∙ ap₂ (λ (rows : List TableauRow) (objective : List ℤ).
    let t : Tableau = record { rows = rows; objective = objective } in t) left.rows
    (ap₂ (λ (copy objective : List ℤ). cleared (number_at (drop 1 copy) (suc column))
    (number_at objective (suc (suc column))) objective copy) left.leaver_is left.objective)
