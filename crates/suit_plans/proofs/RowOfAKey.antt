-- In rows that stand in order, the row of a key stands where the rows before the key end.
use Rattle.std.proofs.Common.{◌≡◌, ℕ, zero, suc, ◌<◌, ◌≤◌, Bool, true, false, cond, List, [], ◌∷◌, length, Option, Some}
use Rattle.std.proofs.Common.{None, slice_index_or, sym, ap, ◌∙◌, subst, inl, inr, arith}
use Rattle.std.specs.Prelude.{find, AllPairs}
use Rattle.std.specs.List.Sorted.{IsPartitionPoint, IsPartitionedBy}
use Rattle.std.proofs.Math.Nat.{eq-or-lt_of_le}
use Rattle.std.proofs.lemmas.Bool.{false≢true, false_from_ne_true}
use Rattle.suit_lists.proofs.Indices.{none_here}

-- how a test for the rows before a key and a test for those of the key stand to an order of rows
pub record Keyed {R : Type 0} (before : R → R → Bool) (earlier here : R → Bool) : Type 0 where
  pub apart : (row : R) → here row ≡ true → earlier row ≡ false
  pub above : (row other : R) → before row other ≡ true → here other ≡ true → earlier row ≡ true
  pub chain : (row other : R) → before row other ≡ true → earlier other ≡ true → earlier row ≡ true

-- rows in order are parted by a key
pub parted_by : {R : Type 0} (before : R → R → Bool) (earlier here : R → Bool) (rows : List R)
    → Keyed before earlier here
    → AllPairs (λ x y. before x y ≡ true) rows → IsPartitionedBy earlier rows
parted_by before earlier here rows keyed order i j d within below passes = elim (eq-or-lt_of_le within) [
  | inl same ↦ subst (λ (k : ℕ). earlier (slice_index_or rows k d) ≡ true) (sym same) passes
  | inr less ↦ keyed.chain (slice_index_or rows i d) (slice_index_or rows j d) (order i j d less below) passes
]

not_here : {R : Type 0} (before : R → R → Bool) (earlier here : R → Bool) (row other : R) → Keyed before earlier here
    → before row other ≡ true → earlier row ≡ false → here other ≡ false
not_here before earlier here row other keyed stands fails =
    false_from_ne_true (here other) (λ is. false≢true (sym fails ∙ keyed.above row other stands is))

-- past the last row there is none of the key
pub found_none : {R : Type 0} (before : R → R → Bool) (earlier here : R → Bool) (rows : List R) (place : ℕ)
    → Keyed before earlier here
    → IsPartitionPoint (λ row. earlier row ≡ true) (λ row. earlier row ≡ false) rows place → length rows ≤ place
    → find here rows ≡ None
found_none before earlier here rows place keyed parted past =
    none_here here rows
    (λ k d below. false_from_ne_true (here (slice_index_or rows k d))
    (λ is. false≢true (sym (keyed.apart (slice_index_or rows k d) is)
    ∙ parted.0 k d (omega arith) (omega (arith, below, past)))))

-- else the row of the key, if there is one, is the first that does not stand before it
pub found_at : {R : Type 0} (before : R → R → Bool) (earlier here : R → Bool) (rows : List R) (place : ℕ) (d : R)
    → Keyed before earlier here → AllPairs (λ x y. before x y ≡ true) rows
    → IsPartitionPoint (λ row. earlier row ≡ true) (λ row. earlier row ≡ false) rows place → place < length rows
    → find here rows ≡ cond (here (slice_index_or rows place d)) (Some (slice_index_or rows place d)) None
found_at before earlier here [] place d keyed order parted below = absurd (omega (arith, below))
found_at {R} before earlier here (row ∷ rows) zero d keyed order parted below =
    let fails : earlier row ≡ false = parted.1 0 row (omega arith) (omega arith) in
    let none : find here rows ≡ None = none_here here rows
    (λ k e inside. not_here before earlier here row (slice_index_or rows k e) keyed
    (order 0 (suc k) e (omega arith) (omega (arith, inside))) fails) in
    ap (λ (later : Option R). cond (here row) (Some row) later) none
found_at {R} before earlier here (row ∷ rows) (suc place) d keyed order parted below =
    let passes : earlier row ≡ true = parted.0 0 row (omega arith) (omega arith) in
    let other : here row ≡ false =
    false_from_ne_true (here row) (λ is. false≢true (sym (keyed.apart row is) ∙ passes)) in
    ap (λ (b : Bool). cond b (Some row) (find here rows)) other
    ∙ found_at before earlier here rows place d keyed
    (λ i j e less inside. order (suc i) (suc j) e (omega (arith, less)) (omega (arith, inside))) (
      λ k e low high. parted.0 (suc k) e (omega arith) (omega (arith, high)),
      λ k e low high. parted.1 (suc k) e (omega (arith, low)) (omega (arith, high)),
    )
    (omega (arith, below))

-- told of the row that was read there
pub found_row : {R : Type 0} (before : R → R → Bool) (earlier here : R
    → Bool) (rows : List R) (place : ℕ) (row : R) (is : Bool) → Keyed before earlier here
    → AllPairs (λ x y. before x y ≡ true) rows
    → IsPartitionPoint (λ row. earlier row ≡ true) (λ row. earlier row ≡ false) rows place → place < length rows
    → row ≡ slice_index_or rows place row → is ≡ here row → find here rows ≡ cond is (Some row) None
found_row {R} before earlier here rows place row is keyed order parted below read tells =
    found_at before earlier here rows place row keyed order parted below
    ∙ sym (ap (λ (r : R). cond (here r) (Some r) None) read) ∙ sym (ap (λ (b : Bool). cond b (Some row) None) tells)
