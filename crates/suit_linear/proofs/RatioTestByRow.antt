-- The ratio test, row by row (`kept_is`).
use Rattle.std.proofs.Common.{◌≡◌, ℕ, Bool, true, ◌&&◌, ◌||◌, [], ◌∷◌, refl, sym, ap, ◌∙◌, cond, Some, IsTrue, arith}
use Rattle.std.specs.Prelude.{ℤ, pos, ◌<ℤ◌, int_lt}
use Rattle.std.specs.List.{list_all}
use Rattle.std.specs.Ordering.{int_eq}
use Rattle.std.proofs.lemmas.Int.{ints}
use Rattle.suit_num.specs.Narrow.{IsNarrow}
use Rattle.suit_linear.specs.Tableaus.{TableauRow, entry}
use Rattle.suit_linear.specs.Pivots.{is_better, kept, compared, compared_pair, is_narrow}
use Rattle.suit_linear.proofs.CombinationByIndex.{narrow_test, both_true}

-- two products that fit
pub pair_narrow : (p q : ℤ) → IsNarrow p → IsNarrow q → IsTrue (list_all is_narrow (p ∷ q ∷ []))
pair_narrow p q h k = both_true (is_narrow p) (is_narrow q
    && true) (narrow_test p h) (both_true (is_narrow q) true (narrow_test q k) refl)

-- what `is_before` answers from two products that fit
pub before_is : (p q r s : ℤ) (lower answer : Bool) → IsNarrow p × (r ≡ p) → IsNarrow q × (s ≡ q)
    → answer ≡ int_lt r s || (int_eq r s && lower) → IsTrue (list_all is_narrow (p ∷ q ∷ []))
    × (answer ≡ int_lt p q || (int_eq p q && lower))
before_is p q r s lower answer first second is = (pair_narrow p q first.0 second.0, rw (first.1, second.1) at is)

positive_test : (z : ℤ) → pos 0 <ℤ z → int_lt (pos 0) z ≡ true
positive_test z h = grind (arith, ints)

pub compared_is : (column : ℕ) (best row : TableauRow) → pos 0 <ℤ entry row column
    → compared column (Some best) row ≡ compared_pair column best row
unfolding compared
compared_is column best row h =
    ap (λ (b : Bool). cond b (compared_pair column best row) []) (positive_test (entry row column) h)

pub kept_is : (column : ℕ) (best row : TableauRow) (better : Bool) → pos 0 <ℤ entry row column
    → better ≡ is_better column best row → kept column (Some best) row ≡ cond better (Some row) (Some best)
unfolding kept
kept_is column best row better h e =
    ap (λ (b : Bool). cond (b && is_better column best row) (Some row) (Some best)) (positive_test (entry row column) h)
    ∙ ap (λ (b : Bool). cond b (Some row) (Some best)) (sym e)
