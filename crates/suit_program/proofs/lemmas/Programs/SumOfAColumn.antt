-- The sum of what a column adds, one entry after another (`entry_added`).
use Rattle.std.proofs.Common.{◌≡◌, ℕ, ◌+◌, ◌*◌, ◌^◌, ◌<◌, ◌≤◌, List, length, take, get_or, refl, sym, ap, ◌∙◌, arith}
use Rattle.std.specs.Prelude.{ℤ, pos, ◌+ℤ◌, ◌==◌, unsigned_abs}
use Rattle.std.proofs.lemmas.Int.{ints}
use Rattle.std.proofs.lemmas.Bool.{cond-true, cond-false, eq-eqb, ne_eqb}
use Rattle.suit_linear.specs.declared.sparse.Entry.{Entry}
use Rattle.suit_linear.specs.Sparse.{part_of, sum_in}
use Rattle.suit_linear.proofs.SparseSums.{sum_in_more}

-- a number is the sum of so many entries, and no larger than as many numbers of 64 bits
pub record IsSummed (count : ℕ) (entries : List Entry) (column : ℕ) (sum : ℤ) : Type 0 where
  pub is : sum ≡ sum_in (take count entries) column
  pub small : unsigned_abs sum ≤ count * 2 ^ 63

pub nothing_added : (entries : List Entry) (column : ℕ) → IsSummed 0 entries column (pos 0)
unfolding sum_in
nothing_added entries column = record { is = refl; small = omega arith }

turned : (sum now part before : ℤ) → sum ≡ now +ℤ part → now ≡ before → sum ≡ part +ℤ before
turned sum now part before h k = omega (arith, ints, h, k)

pub grown : (a b : ℤ) (count : ℕ) → unsigned_abs a ≤ count * 2 ^ 63 → unsigned_abs b ≤ 2 ^ 63
    → unsigned_abs (a +ℤ b) ≤ (count + 1) * 2 ^ 63
grown a b count h k = omega (arith, ints)

pub entry_added : (count : ℕ) (entries : List Entry) (column : ℕ) (other : Entry) (now sum : ℤ)
    → count < length entries → (get_or entries count other).column ≡ column
    → unsigned_abs (get_or entries count other).number ≤ 2 ^ 63
    → sum ≡ now +ℤ (get_or entries count other).number
    → IsSummed count entries column now → IsSummed (count + 1) entries column sum
entry_added count entries column other now sum less here fits is h =
    let entry : Entry = get_or entries count other in
    record {
      is = turned sum now (part_of entry column) (sum_in (take count entries) column)
          (is ∙ ap (λ (z : ℤ). now +ℤ z) (sym (cond-true (column == entry.column) entry.number (pos 0)
          (eq-eqb column entry.column (sym here))))) h.is
          ∙ sym (sum_in_more entries count other column less);
      small = rw is (grown now entry.number count h.small fits);
    }

pub entry_past : (count : ℕ) (entries : List Entry) (column : ℕ) (other : Entry) (now : ℤ)
    → count < length entries → ((get_or entries count other).column ≡ column → ⊥)
    → IsSummed count entries column now → IsSummed (count + 1) entries column now
entry_past count entries column other now less there h =
    let entry : Entry = get_or entries count other in
    record {
      is = turned now now (part_of entry column) (sum_in (take count entries) column)
          (kept now (part_of entry column) (cond-false (column == entry.column) entry.number (pos 0)
          (ne_eqb column entry.column (λ (e : column ≡ entry.column). there (sym e))))) h.is
          ∙ sym (sum_in_more entries count other column less);
      small = let before = h.small in omega (arith, before);
    }
  where
    kept : (x y : ℤ) → y ≡ pos 0 → x ≡ x +ℤ y
    kept x y e = omega (arith, ints, e)
