-- The row that leaves, as the rows are gone through (`last_best`).
use Rattle.std.proofs.Common.{◌≡◌, ℕ, zero, suc, ◌+◌, ◌<◌, ◌≤◌, Bool, true, false, ◌&&◌, List, [], ◌∷◌, length, drop}
use Rattle.std.proofs.Common.{refl, sym, ap, ◌∙◌, Option, Some, None, IsTrue, arith, add-one}
use Rattle.std.specs.Prelude.{fold, slice_get, option_map}
use Rattle.std.specs.List.{list_all}
use Rattle.std.specs.Option.{ForSome}
use Rattle.suit_linear.specs.Tableaus.{TableauRow}
use Rattle.suit_linear.specs.Pivots.{kept, leaving, compared, ratio_products, is_narrow}
use Rattle.suit_simplex.specs.Dense.{row_at, seen}
use Rattle.suit_simplex.specs.declared.dense.Dense.{Dense}
use Rattle.suit_linear.proofs.CombinationByIndex.{test_append, first_true}
use Rattle.suit_simplex.proofs.DenseRows.{length-rows_seen, rows_seen_at}
use Rattle.suit_lists.proofs.Walks.{drop_got, drop_past}

pub length-seen : (dense : Dense) → length (seen dense).rows ≡ length dense.basics.items
unfolding seen
length-seen dense = length-rows_seen dense.width dense.basics.items dense.numbers.items

pub seen_row : (dense : Dense) (index : ℕ) → index < length dense.basics.items
    → slice_get (seen dense).rows index ≡ Some (row_at dense index)
unfolding seen
seen_row dense index less = rows_seen_at dense.width dense.basics.items dense.numbers.items index _ less refl

pub drop_row : (dense : Dense) (index : ℕ) → index < length dense.basics.items
    → drop index (seen dense).rows ≡ row_at dense index ∷ drop (index + 1) (seen dense).rows
drop_row dense index less = rw add-one
    (drop_got (seen dense).rows index (row_at dense index) (seen_row dense index less))

-- the rows from an index on decide the leaving row and the test of the products, with the best row so far
pub record IsBestBefore (dense : Dense) (column : ℕ) (best : Option ℕ) (index : ℕ) : Type 0 where
  pub value : fold (kept column) (option_map (row_at dense) best) (drop index (seen dense).rows)
      ≡ leaving (seen dense) column
  pub fits : list_all is_narrow (ratio_products column None (seen dense).rows)
      ≡ list_all is_narrow (ratio_products column (option_map (row_at dense) best) (drop index (seen dense).rows))
  pub within : ForSome best (λ leader. leader < length dense.basics.items)

pub none_best : (dense : Dense) (column : ℕ) → IsBestBefore dense column None 0
none_best dense column = record { value = refl; fits = refl; within = λ x e. absurd (cc) }

products_from : (dense : Dense) (column : ℕ) (best : Option ℕ) (index : ℕ) → index < length dense.basics.items
    → list_all is_narrow (ratio_products column (option_map (row_at dense) best) (drop index (seen dense).rows))
    ≡ list_all is_narrow (compared column (option_map (row_at dense) best) (row_at dense index))
    && list_all is_narrow (ratio_products column (kept column (option_map (row_at dense) best) (row_at dense index))
    (drop (index + 1) (seen dense).rows))
unfolding ratio_products
products_from dense column best index less =
    ap (λ (rows : List TableauRow). list_all is_narrow (ratio_products column (option_map (row_at dense) best) rows))
    (drop_row dense index less)
    ∙ test_append (compared column (option_map (row_at dense) best) (row_at dense index))
    (ratio_products column (kept column (option_map (row_at dense) best) (row_at dense index))
    (drop (index + 1) (seen dense).rows))

true_first : (a b : Bool) → a ≡ true → a && b ≡ b
true_first true b e = refl
true_first false b e = absurd (cc)

pub next_best : (dense : Dense) (column : ℕ) (best next : Option ℕ) (index : ℕ) → index < length dense.basics.items
    → IsBestBefore dense column best index
    → IsTrue (list_all is_narrow (compared column (option_map (row_at dense) best) (row_at dense index)))
    → option_map (row_at dense) next ≡ kept column (option_map (row_at dense) best) (row_at dense index)
    → ForSome next (λ leader. leader < length dense.basics.items) → IsBestBefore dense column next (index + 1)
next_best dense column best next index less before fits is within = record {
  value =
      ap (λ (o : Option TableauRow). fold (kept column) o (drop (index + 1) (seen dense).rows)) is
      ∙ sym (ap (λ (rows : List TableauRow). fold (kept column) (option_map (row_at dense) best) rows)
      (drop_row dense index less))
      ∙ before.value;
  fits =
      before.fits
      ∙ products_from dense column best index less
      ∙ true_first (list_all is_narrow (compared column (option_map (row_at dense) best) (row_at dense index))) _ fits
      ∙ ap (λ (o : Option TableauRow). list_all is_narrow
      (ratio_products column o (drop (index + 1) (seen dense).rows))) (sym is);
  within = within;
}

-- past the last row
pub last_best : (dense : Dense) (column : ℕ) (best : Option ℕ) (index : ℕ) → length dense.basics.items ≤ index
    → IsBestBefore dense column best index → (option_map (row_at dense) best ≡ leaving (seen dense) column)
    × IsTrue (list_all is_narrow (ratio_products column None (seen dense).rows))
unfolding ratio_products
last_best dense column best index past before =
    let none : drop index (seen dense).rows ≡ [] =
    drop_past (seen dense).rows index (omega (arith, length-seen dense)) in (
      rw none at before.value,
      before.fits ∙ ap (λ (rows : List TableauRow). list_all is_narrow
          (ratio_products column (option_map (row_at dense) best) rows)) none,
    )

-- where the products of one row do not fit
pub not_fitting : (dense : Dense) (column : ℕ) (best : Option ℕ) (index : ℕ) → index < length dense.basics.items
    → IsBestBefore dense column best index
    → ¬ IsTrue (list_all is_narrow (compared column (option_map (row_at dense) best) (row_at dense index)))
    → ¬ IsTrue (list_all is_narrow (ratio_products column None (seen dense).rows))
not_fitting dense column best index less before refused all =
    refused (first_true (list_all is_narrow (compared column (option_map (row_at dense) best) (row_at dense index))) _
    (sym (products_from dense column best index less) ∙ sym before.fits ∙ all))
