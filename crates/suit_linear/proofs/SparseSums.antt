-- The sums of entries by their columns (`summed_more`).
use Rattle.std.proofs.Common.{◌≡◌, inl, inr, ℕ, zero, suc, ◌+◌, ◌*◌, ◌^◌, ◌<◌, ◌≤◌, List, [], ◌∷◌, length, take, get_or}
use Rattle.std.proofs.Common.{refl}
use Rattle.std.proofs.Common.{sym, ap, ◌∙◌, arith}
use Rattle.std.specs.Prelude.{ℤ, pos, ◌+ℤ◌, set, ◌==◌, unsigned_abs}
use Rattle.std.proofs.lemmas.Int.{ints}
use Rattle.std.proofs.lemmas.Bool.{cases_eq, cond-true, cond-false, eq-eqb, ne_eqb}
use Rattle.std.proofs.lemmas.List.{length-set, get_or-set_same, get_or-set_other, take_all}
use Rattle.std.proofs.lemmas.List.FromFn.{fill_by_all}
use Rattle.suit_linear.specs.Points.{number_at}
use Rattle.suit_linear.specs.declared.sparse.Entry.{Entry}
use Rattle.suit_linear.specs.Sparse.{part_of, sum_in, dense_entries}

-- numbers are the sums of so many entries, and none is larger than as many numbers of 64 bits
pub record AreSummed (columns count : ℕ) (entries : List Entry) (numbers : List ℤ) : Type 0 where
  pub same : length numbers ≡ columns
  pub sums : (column : ℕ) → column < columns → number_at numbers column ≡ sum_in (take count entries) column
  pub small : (column : ℕ) → column < columns → unsigned_abs (number_at numbers column) ≤ count * 2 ^ 63

regroup : (a b c : ℤ) → a +ℤ (b +ℤ c) ≡ b +ℤ (a +ℤ c)
regroup a b c = omega (arith, ints)

-- one more entry
pub sum_in_more : (entries : List Entry) (count : ℕ) (other : Entry) (column : ℕ) → count < length entries
    → sum_in (take (count + 1) entries) column
    ≡ part_of (get_or entries count other) column +ℤ sum_in (take count entries) column
unfolding sum_in
sum_in_more [] count other column less = absurd (omega arith)
sum_in_more (first ∷ entries) zero other column less = refl
sum_in_more (first ∷ entries) (suc count) other column less =
    let e : suc count + 1 ≡ suc (count + 1) = omega arith in
    rw e
    (ap (λ (z : ℤ). part_of first column +ℤ z) (sum_in_more entries count other column (omega arith))
    ∙ regroup (part_of first column) (part_of (get_or entries count other) column) (sum_in (take count entries) column))

pub none_summed : (columns : ℕ) (entries : List Entry) (numbers : List ℤ) → length numbers ≡ columns
    → ((column : ℕ) → number_at numbers column ≡ pos 0) → AreSummed columns 0 entries numbers
unfolding sum_in
none_summed columns entries numbers same zeros = record {
  same = same;
  sums = λ column less. zeros column;
  small = λ column less. rw (zeros column) (omega arith);
}

grown_small : (a b : ℤ) (count : ℕ) → unsigned_abs a ≤ count * 2 ^ 63 → unsigned_abs b ≤ 2 ^ 63
    → unsigned_abs (a +ℤ b) ≤ (count + 1) * 2 ^ 63
grown_small a b count h k = omega (arith, ints)

grown_sum : (sum now part before : ℤ) → sum ≡ now +ℤ part → now ≡ before → sum ≡ part +ℤ before
grown_sum sum now part before h k = omega (arith, ints)

kept_sum : (now part before : ℤ) → now ≡ before → part ≡ pos 0 → now ≡ part +ℤ before
kept_sum now part before h k = omega (arith, ints)

-- an entry is added to its column
pub summed_more : (columns count : ℕ) (entries : List Entry) (numbers : List ℤ) (other : Entry) (sum : ℤ)
    → count < length entries → (get_or entries count other).column < columns
    → unsigned_abs (get_or entries count other).number ≤ 2 ^ 63
    → sum ≡ number_at numbers (get_or entries count other).column +ℤ (get_or entries count other).number
    → AreSummed columns count entries numbers
    → AreSummed columns (count + 1) entries (set numbers (get_or entries count other).column sum)
summed_more columns count entries numbers other sum less within fits e h =
    let entry : Entry = get_or entries count other in
    record {
      same = length-set numbers entry.column sum ∙ h.same;
      sums = λ column below.
          elim (cases_eq column (get_or entries count other).column) [
            | inl here ↦
                ap (λ (n : ℕ). number_at (set numbers entry.column sum) n) here
                ∙ get_or-set_same numbers entry.column sum (pos 0) (omega (arith, h.same))
                ∙ grown_sum sum (number_at numbers entry.column) (part_of entry column) (sum_in (take count entries)
                column)
                (e ∙ ap (λ (z : ℤ). number_at numbers entry.column +ℤ z)
                (sym (cond-true (column == entry.column) entry.number (pos 0) (eq-eqb column entry.column here))))
                (ap (λ (n : ℕ). number_at numbers n) (sym here) ∙ h.sums column below)
                ∙ sym (sum_in_more entries count other column less)
            | inr differs ↦
                get_or-set_other numbers entry.column column sum (pos 0) differs
                ∙ kept_sum (number_at numbers column) (part_of entry column) (sum_in (take count entries) column)
                (h.sums column below)
                (cond-false (column == entry.column) entry.number (pos 0) (ne_eqb column entry.column differs))
                ∙ sym (sum_in_more entries count other column less)
          ];
      small = λ column below.
          elim (cases_eq column (get_or entries count other).column) [
            | inl here ↦
                rw (ap (λ (n : ℕ). number_at (set numbers entry.column sum) n) here
                ∙ get_or-set_same numbers entry.column sum (pos 0) (omega (arith, h.same)) ∙ e)
                (grown_small (number_at numbers entry.column) entry.number count (h.small entry.column within) fits)
            | inr differs ↦
                rw (get_or-set_other numbers entry.column column sum (pos 0) differs)
                (let before = h.small column below in omega arith)
          ];
    }

-- an entry of no column counts for nothing
pub summed_past : (columns count : ℕ) (entries : List Entry) (numbers : List ℤ) (other : Entry)
    → count < length entries → columns ≤ (get_or entries count other).column
    → AreSummed columns count entries numbers → AreSummed columns (count + 1) entries numbers
summed_past columns count entries numbers other less past h =
    let entry : Entry = get_or entries count other in
    record {
      same = h.same;
      sums = λ column below.
          kept_sum (number_at numbers column) (part_of entry column) (sum_in (take count entries) column)
          (h.sums column below)
          (cond-false (column == entry.column) entry.number (pos 0) (ne_eqb column entry.column
          (λ (e : column ≡ entry.column). omega (arith, past))))
          ∙ sym (sum_in_more entries count other column less);
      small = λ column below. let before = h.small column below in omega arith;
    }

pub all_summed : (columns count : ℕ) (entries : List Entry) (numbers : List ℤ) → length entries ≤ count
    → AreSummed columns count entries numbers → numbers ≡ dense_entries columns entries
all_summed columns count entries numbers past h =
    fill_by_all (sum_in entries) numbers columns (pos 0) h.same
    (λ column below. h.sums column below ∙ ap (λ (xs : List Entry). sum_in xs column) (take_all count entries past))
