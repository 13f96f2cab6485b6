-- A multiple of a row stays one when a pivot clears it (`multiples_cleared`), and the same row leaves (`leaving_same`).
use Rattle.std.proofs.Common.{◌≡◌, ℕ, suc, Bool, true, false, ◌&&◌, ◌||◌, List, [], ◌∷◌, sym, ap, ap₂, ◌∙◌, cond}
use Rattle.std.proofs.Common.{Option, Some, None, inl, inr, subst, arith}
use Rattle.std.specs.Prelude.{ℤ, pos, ◌-ℤ◌, ◌*ℤ◌, ◌<ℤ◌, ◌≤ℤ◌, int_lt, fold, nat_lt}
use Rattle.std.specs.Ordering.{int_eq}
use Rattle.std.proofs.lemmas.Int.{ints}
use Rattle.std.proofs.lemmas.Bool.{cases_Bool}
use Rattle.std.proofs.lemmas.Bool.Decides.{Decides-int_eq}
use Rattle.std.proofs.Math.IntN.{*ℤ_comm, zero-*ℤ}
use Rattle.suit_num.proofs.IntegerLaws.{int_lt-true, mul_assoc, mul_left_comm, mul_right_comm, mul-sub_left}
use Rattle.suit_num.proofs.IntegerLaws.{mul_positive, same_from_mul, lt-mul_right, lt_from_mul}
use Rattle.suit_linear.specs.Points.{number_at}
use Rattle.suit_linear.specs.Tableaus.{TableauRow, Tableau, bound, entry}
use Rattle.suit_linear.specs.Pivots.{is_better, kept, leaving}
use Rattle.suit_linear.specs.Multiples.{AreMultiples, IsMultipleRow, AreMultipleRows, IsMultipleChoice}
use Rattle.suit_linear.proofs.ClearingByGcd.{IsCleared}

-- ---- products of four

-- the factors within are exchanged
pub cross : (p q r s : ℤ) → (p *ℤ q) *ℤ (r *ℤ s) ≡ (p *ℤ r) *ℤ (q *ℤ s)
cross p q r s = mul_assoc p q (r *ℤ s) ∙ ap (λ (z : ℤ). p *ℤ z) (mul_left_comm q r s) ∙ sym (mul_assoc p r (q *ℤ s))

-- the outer factors are exchanged
outer : (p q r s : ℤ) → (p *ℤ q) *ℤ (r *ℤ s) ≡ (r *ℤ q) *ℤ (p *ℤ s)
outer p q r s = ap (λ (z : ℤ). z *ℤ (r *ℤ s)) (*ℤ_comm p q) ∙ cross q p r s
    ∙ ap (λ (z : ℤ). z *ℤ (p *ℤ s)) (*ℤ_comm q r)

-- ---- a pivot

module _ (p s : ℤ) (before leaver after : List ℤ) (x : ℕ
    → ℤ) (index : ℕ) (own times : ℤ) (clear : IsCleared p s before leaver after)
    (is : AreMultiples x (number_at before)) (here : number_at before index ≡ s) (some : pos 0 <ℤ p) (own_some : pos 0
    <ℤ own) (balance : own *ℤ x index ≡ times *ℤ p) where
  factors : (own *ℤ is.right) *ℤ clear.other ≡ (is.left *ℤ times) *ℤ clear.own
  factors =
      same_from_mul ((own *ℤ is.right) *ℤ clear.other) ((is.left *ℤ times) *ℤ clear.own) p
      (mul_assoc (own *ℤ is.right) clear.other p
      ∙ ap (λ (z : ℤ). (own *ℤ is.right) *ℤ z) (sym clear.balance ∙ *ℤ_comm clear.own s)
      ∙ sym (mul_assoc (own *ℤ is.right) s clear.own)
      ∙ ap (λ (z : ℤ). z *ℤ clear.own)
      (mul_assoc own is.right s
      ∙ ap (λ (z : ℤ). own *ℤ z) (sym (is.numbers index ∙ ap (λ (z : ℤ). is.right *ℤ z) here))
      ∙ mul_left_comm own is.left (x index)
      ∙ ap (λ (z : ℤ). is.left *ℤ z) balance
      ∙ sym (mul_assoc is.left times p))
      ∙ mul_right_comm (is.left *ℤ times) p clear.own) some

  kept_part : (k : ℕ) → (is.left *ℤ clear.own) *ℤ (own *ℤ x k) ≡ (own *ℤ is.right) *ℤ (clear.own *ℤ number_at before k)
  kept_part k =
      outer is.left clear.own own (x k)
      ∙ ap (λ (z : ℤ). (own *ℤ clear.own) *ℤ z) (is.numbers k)
      ∙ cross own clear.own is.right (number_at before k)

  taken_part : (k : ℕ) → (is.left *ℤ clear.own) *ℤ (times *ℤ number_at leaver k)
      ≡ (own *ℤ is.right) *ℤ (clear.other *ℤ number_at leaver k)
  taken_part k =
      sym (mul_assoc (is.left *ℤ clear.own) times (number_at leaver k))
      ∙ ap (λ (z : ℤ). z *ℤ number_at leaver k) (mul_right_comm is.left clear.own times ∙ sym factors)
      ∙ mul_assoc (own *ℤ is.right) clear.other (number_at leaver k)

  -- a multiple of a row, less a multiple of the leaving row that clears its entry, is a multiple of the cleared row
  pub multiples_cleared : AreMultiples (λ k. own *ℤ x k -ℤ times *ℤ number_at leaver k) (number_at after)
  multiples_cleared = record {
    left = is.left *ℤ clear.own;
    right = (own *ℤ is.right) *ℤ clear.divisor;
    left_positive = mul_positive is.left clear.own is.left_positive clear.own_positive;
    right_positive = mul_positive (own *ℤ is.right) clear.divisor (mul_positive own is.right own_some is.right_positive)
        clear.divisor_positive;
    numbers = λ k.
        mul-sub_left (is.left *ℤ clear.own) (own *ℤ x k) (times *ℤ number_at leaver k)
        ∙ ap₂ (λ (y z : ℤ). y -ℤ z) (kept_part k) (taken_part k)
        ∙ sym (mul-sub_left (own *ℤ is.right) (clear.own *ℤ number_at before k) (clear.other *ℤ number_at leaver k))
        ∙ ap (λ (z : ℤ). (own *ℤ is.right) *ℤ z) (sym (clear.numbers k) ∙ *ℤ_comm (number_at after k) clear.divisor)
        ∙ sym (mul_assoc (own *ℤ is.right) clear.divisor (number_at after k));
  }

-- ---- the same choices

-- positive factors leave the order of two numbers
pub less_scaled : (f g x y u v : ℤ) → pos 0 <ℤ f → pos 0 <ℤ g → f *ℤ x ≡ g *ℤ u → f *ℤ y ≡ g *ℤ v → u <ℤ v → x <ℤ y
less_scaled f g x y u v some more h k less =
    let grown : (u *ℤ g) <ℤ (v *ℤ g) = lt-mul_right u v g less more in
    let e : u *ℤ g ≡ x *ℤ f = *ℤ_comm u g ∙ sym h ∙ *ℤ_comm f x in
    let d : v *ℤ g ≡ y *ℤ f = *ℤ_comm v g ∙ sym k ∙ *ℤ_comm f y in
    lt_from_mul x y f (subst (λ (z : ℤ). z <ℤ (y *ℤ f)) e (subst (λ (z : ℤ). (u *ℤ g) <ℤ z) d grown)) (low f some)
  where
    low : (f : ℤ) → pos 0 <ℤ f → pos 0 ≤ℤ f
    low f h = omega (arith, ints)

test_is : (x y : ℤ) → x <ℤ y → int_lt x y ≡ true
test_is x y h = grind (arith, ints)

test_is_not : (x y : ℤ) → (x <ℤ y → ⊥) → int_lt x y ≡ false
test_is_not x y h =
    elim (cases_Bool (int_lt x y)) [
      | inl less ↦ absurd (h (int_lt-true x y less))
      | inr same ↦ same
    ]

module _ (f g x y u v : ℤ) (some : pos 0 <ℤ f) (more : pos 0 <ℤ g) (h : f *ℤ x ≡ g *ℤ u) (k : f *ℤ y ≡ g *ℤ v) where
  pub order_scaled : int_lt x y ≡ int_lt u v
  order_scaled =
      elim (cases_Bool (int_lt u v)) [
        | inl less ↦ test_is x y (less_scaled f g x y u v some more h k (int_lt-true u v less)) ∙ sym less
        | inr not_less ↦
            test_is_not x y (λ less. true_false
            (sym (test_is u v (less_scaled g f u v x y more some (sym h) (sym k) less)) ∙ not_less)) ∙ sym not_less
      ]
    where
      true_false : true ≡ false → ⊥
      true_false e = absurd (cc)

  same_forth : x ≡ y → u ≡ v
  same_forth e = same_from_mul u v g (*ℤ_comm u g ∙ sym h ∙ ap (λ (z : ℤ). f *ℤ z) e ∙ k ∙ *ℤ_comm g v) more

  same_back : u ≡ v → x ≡ y
  same_back e = same_from_mul x y f (*ℤ_comm x f ∙ h ∙ ap (λ (z : ℤ). g *ℤ z) e ∙ sym k ∙ *ℤ_comm f y) some

  pub equality_scaled : int_eq x y ≡ int_eq u v
  equality_scaled =
      elim (cases_Bool (int_eq u v)) [
        | inl same ↦ (Decides-int_eq x y).1 (same_back ((Decides-int_eq u v).0 same)) ∙ sym same
        | inr differ ↦
            elim (cases_Bool (int_eq x y)) [
              | inl same ↦ absurd (true_false (sym ((Decides-int_eq u v).1 (same_forth ((Decides-int_eq x y).0 same)))
                  ∙ differ))
              | inr other ↦ other ∙ sym differ
            ]
      ]
    where
      true_false : true ≡ false → ⊥
      true_false e = absurd (cc)

zeros_scaled : (f g : ℤ) → f *ℤ pos 0 ≡ g *ℤ pos 0
zeros_scaled f g = *ℤ_comm f (pos 0) ∙ zero-*ℤ f ∙ sym (*ℤ_comm g (pos 0) ∙ zero-*ℤ g)

-- signs are the same
pub sign_same : (x y : ℕ → ℤ) (index : ℕ) → AreMultiples x y → int_lt (pos 0) (x index) ≡ int_lt (pos 0) (y index)
sign_same x y index is = order_scaled is.left is.right (pos 0) (x index) (pos 0) (y index) is.left_positive
    is.right_positive (zeros_scaled is.left is.right) (is.numbers index)

pub negative_same : (x y : ℕ → ℤ) (index : ℕ) → AreMultiples x y → int_lt (x index) (pos 0) ≡ int_lt (y index) (pos 0)
negative_same x y index is = order_scaled is.left is.right (x index) (pos 0) (y index) (pos 0) is.left_positive
    is.right_positive (is.numbers index) (zeros_scaled is.left is.right)

module _ (column : ℕ) (best row best' row' : TableauRow) (is : IsMultipleRow best best')
    (other : IsMultipleRow row row') where
  -- both products of a pair get the same positive factor
  first_product : (is.numbers.left *ℤ other.numbers.left) *ℤ (bound row *ℤ entry best column)
      ≡ (is.numbers.right *ℤ other.numbers.right) *ℤ (bound row' *ℤ entry best' column)
  first_product =
      ap (λ (z : ℤ). z *ℤ (bound row *ℤ entry best column)) (*ℤ_comm is.numbers.left other.numbers.left)
      ∙ cross other.numbers.left is.numbers.left (bound row) (entry best column)
      ∙ ap₂ (λ (y z : ℤ). y *ℤ z) (other.numbers.numbers 0) (is.numbers.numbers (suc column))
      ∙ cross other.numbers.right (bound row') is.numbers.right (entry best' column)
      ∙ ap (λ (z : ℤ). z *ℤ (bound row' *ℤ entry best' column)) (*ℤ_comm other.numbers.right is.numbers.right)

  second_product : (is.numbers.left *ℤ other.numbers.left) *ℤ (bound best *ℤ entry row column)
      ≡ (is.numbers.right *ℤ other.numbers.right) *ℤ (bound best' *ℤ entry row' column)
  second_product =
      cross is.numbers.left other.numbers.left (bound best) (entry row column)
      ∙ ap₂ (λ (y z : ℤ). y *ℤ z) (is.numbers.numbers 0) (other.numbers.numbers (suc column))
      ∙ cross is.numbers.right (bound best') other.numbers.right (entry row' column)

  pub better_same : is_better column best row ≡ is_better column best' row'
  better_same =
      let some = mul_positive is.numbers.left other.numbers.left is.numbers.left_positive other.numbers.left_positive in
      let more = mul_positive is.numbers.right other.numbers.right is.numbers.right_positive
      other.numbers.right_positive in
      ap₂ (λ (less same : Bool). less || (same && nat_lt row.basic best.basic))
      (order_scaled (is.numbers.left *ℤ other.numbers.left) (is.numbers.right *ℤ other.numbers.right)
      (bound row *ℤ entry best column) (bound best *ℤ entry row column) (bound row' *ℤ entry best' column)
      (bound best' *ℤ entry row' column) some more first_product second_product)
      (equality_scaled (is.numbers.left *ℤ other.numbers.left) (is.numbers.right *ℤ other.numbers.right)
      (bound row *ℤ entry best column) (bound best *ℤ entry row column) (bound row' *ℤ entry best' column)
      (bound best' *ℤ entry row' column) some more first_product second_product)
      ∙ ap₂ (λ (a b : ℕ). int_lt (bound row' *ℤ entry best' column) (bound best' *ℤ entry row' column)
      || (int_eq (bound row' *ℤ entry best' column) (bound best' *ℤ entry row' column) && nat_lt a b)) other.basic
      is.basic

-- the choice by a test
choice : (b : Bool) (x y : Option TableauRow) (x' y' : Option TableauRow) → IsMultipleChoice x x'
    → IsMultipleChoice y y' → IsMultipleChoice (cond b x y) (cond b x' y')
choice true x y x' y' h k = h
choice false x y x' y' h k = k

pub kept_same : (column : ℕ) (best best' : Option TableauRow) (row row' : TableauRow) → IsMultipleChoice best best'
    → IsMultipleRow row row' → IsMultipleChoice (kept column best row) (kept column best' row')
unfolding kept
kept_same column None None row row' h is =
    subst (λ (b : Bool). IsMultipleChoice (cond (int_lt (pos 0) (entry row column)) (Some row) None)
    (cond b (Some row') None)) (sign_same (number_at row.numbers) (number_at row'.numbers) (suc column) is.numbers)
    (choice (int_lt (pos 0) (entry row column)) (Some row) None (Some row') None is tt)
kept_same column (Some best) (Some best') row row' h is =
    subst (λ (b : Bool). IsMultipleChoice (cond (int_lt (pos 0) (entry row column)
    && is_better column best row) (Some row) (Some best)) (cond b (Some row') (Some best')))
    (ap₂ (λ (a b : Bool). a && b) (sign_same (number_at row.numbers) (number_at row'.numbers) (suc column) is.numbers)
    (better_same column best row best' row' h is))
    (choice (int_lt (pos 0) (entry row column)
    && is_better column best row) (Some row) (Some best) (Some row') (Some best') is h)
kept_same column None (Some best') row row' h is = absurd h
kept_same column (Some best) None row row' h is = absurd h

fold_same : (column : ℕ) (rows rows' : List TableauRow) (best best' : Option TableauRow) → AreMultipleRows rows rows'
    → IsMultipleChoice best best' → IsMultipleChoice (fold (kept column) best rows) (fold (kept column) best' rows')
fold_same column [] [] best best' h is = is
fold_same column (row ∷ rows) (row' ∷ rows') best best' h is =
    fold_same column rows rows' (kept column best row) (kept column best' row') h.1
    (kept_same column best best' row row' is h.0)
fold_same column [] (row' ∷ rows') best best' h is = absurd h
fold_same column (row ∷ rows) [] best best' h is = absurd h

-- among multiples of all rows, one by one, a multiple of the same row leaves
pub leaving_same : (tableau other : Tableau) (column : ℕ) → AreMultipleRows tableau.rows other.rows
    → IsMultipleChoice (leaving tableau column) (leaving other column)
leaving_same tableau other column h = fold_same column tableau.rows other.rows None None h tt
