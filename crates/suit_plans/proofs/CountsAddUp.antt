-- Whether counts add up to a mass, by what is left of the mass.
use Rattle.std.proofs.Common.{◌≡◌, ℕ, ◌+◌, ◌<◌, ◌≤◌, Bool, true, false, [], ◌∷◌, length, get_or, drop, map, int_eq, ℤ}
use Rattle.std.proofs.Common.{pos, ◌+ℤ◌, ◌-ℤ◌, ◌≤ℤ◌, ◌<ℤ◌, sym, ap, ◌∙◌, inl, inr, arith}
use Rattle.std.specs.Prelude.{int_le}
use Rattle.std.specs.List.{list_all}
use Rattle.std.specs.Cmp.{signed_Decides}
use Rattle.std.proofs.lemmas.Bool.{and_parts, cases_Bool, false≢true, false_from_ne_true}
use Rattle.std.proofs.lemmas.Int.{ints}
use Rattle.std.proofs.lemmas.List.{at_drop_more, drop_all}
use Rattle.suit_classes.specs.declared.class_moves.ClassMove.{ClassMove}
use Rattle.suit_plans.specs.Properness.{sum_of}
use Rattle.suit_num.proofs.IntegerLaws.{int_le-true}
use Rattle.suit_plans.specs.Masses.{Shares}

-- the sum of some counts
abbrev pub added : Shares → ℤ
added shares = sum_of (map (λ (count : ClassMove × ℤ). count.1) shares)

abbrev pub are_all_positive : Shares → Bool
are_all_positive shares = list_all (λ (count : ClassMove × ℤ). int_le (pos 0) count.1) shares

-- one count more
pub added_from : (shares : Shares) (place : ℕ) (d : ClassMove × ℤ) → place < length shares
    → added (drop place shares) ≡ (get_or shares place d).1 +ℤ added (drop (place + 1) shares)
unfolding sum_of
added_from shares place d below = at_drop_more added shares place d below

-- past the last nothing is added
pub added_past : (shares : Shares) (place : ℕ) → length shares ≤ place → added (drop place shares) ≡ pos 0
unfolding sum_of
added_past shares place past = ap added (drop_all place shares past)

-- no sum of counts is below 0 where none of them is
pub added_positive : (shares : Shares) → are_all_positive shares ≡ true → pos 0 ≤ℤ added shares
unfolding sum_of
added_positive [] all = omega (arith, ints)
added_positive (count ∷ shares) all =
    let parts = and_parts (int_le (pos 0) count.1) (are_all_positive shares) all in
    omega (arith, ints, int_le-true (pos 0) count.1 parts.0, added_positive shares parts.1)

same_test : (a b c d : ℤ) → (a ≡ b → c ≡ d) → (c ≡ d → a ≡ b) → int_eq a b ≡ int_eq c d
same_test a b c d there back = elim (cases_Bool (int_eq a b)) [
  | inl same ↦ same ∙ sym ((signed_Decides c d).1 (there ((signed_Decides a b).0 same)))
  | inr other ↦ other ∙ sym (false_from_ne_true (int_eq c d) (λ is. false≢true (sym other
      ∙ (signed_Decides a b).1 (back ((signed_Decides c d).0 is)))))
]

-- counts add up to what is left where those after the first add up to what is left after it
pub left_after : (count sum rest : ℤ) → int_eq (count +ℤ sum) rest ≡ int_eq sum (rest -ℤ count)
left_after count sum rest = same_test (count +ℤ sum) rest sum (rest -ℤ count) (λ is. omega (arith, ints, is))
    (λ is. omega (arith, ints, is))

-- and they do not where the first is more than what is left
pub more_than_left : (count sum rest : ℤ) → pos 0 ≤ℤ sum → rest <ℤ count → int_eq (count +ℤ sum) rest ≡ false
more_than_left count sum rest positive above =
    false_from_ne_true (int_eq (count +ℤ sum) rest)
    (λ is. absurd (omega (arith, ints, (signed_Decides (count +ℤ sum) rest).0 is, positive, above)))

-- what a walk over counts knows of a sum: the counts still to come are not below 0, and they add up to what is left
-- where all add up to the mass
pub record IsLeft (shares : Shares) (mass : ℤ) (place : ℕ) (rest : ℤ) : Type 0 where
  pub positive : are_all_positive (drop place shares) ≡ true
  pub sum : int_eq (added (drop place shares)) rest ≡ int_eq (added shares) mass

pub left_first : (shares : Shares) (mass rest : ℤ) → are_all_positive shares ≡ true → rest ≡ mass
    → IsLeft shares mass 0 rest
left_first shares mass rest positive is = record { positive = positive; sum = ap (int_eq (added shares)) is }

-- the next count is not below 0
pub left_count : (shares : Shares) (mass : ℤ) (place : ℕ) (d : ClassMove × ℤ) (rest : ℤ) → place < length shares
    → IsLeft shares mass place rest
    → pos 0 ≤ℤ (get_or shares place d).1
left_count shares mass place d rest below left =
    int_le-true (pos 0) (get_or shares place d).1
    (and_parts (int_le (pos 0) (get_or shares place d).1) (are_all_positive (drop (place + 1) shares))
    (sym (at_drop_more are_all_positive shares place d below) ∙ left.positive)).0

-- one count is taken from what is left
pub left_next : (shares : Shares) (mass : ℤ) (place : ℕ) (d : ClassMove × ℤ) (rest next : ℤ) → place < length shares
    → IsLeft shares mass place rest
    → next ≡ rest -ℤ (get_or shares place d).1 → IsLeft shares mass (place + 1) next
left_next shares mass place d rest next below left is =
    let count = (get_or shares place d).1 in
    let after : Shares = drop (place + 1) shares in record {
      positive = (and_parts (int_le (pos 0) count) (are_all_positive after)
          (sym (at_drop_more are_all_positive shares place d below) ∙ left.positive)).1;
      sum = ap (int_eq (added after)) is ∙ sym (left_after count (added after) rest)
          ∙ ap (λ (sum : ℤ). int_eq sum rest) (sym (added_from shares place d below)) ∙ left.sum;
    }

-- a count that is more than what is left
pub left_too_little : (shares : Shares) (mass : ℤ) (place : ℕ) (d : ClassMove × ℤ) (rest : ℤ) → place < length shares
    → IsLeft shares mass place rest
    → rest <ℤ (get_or shares place d).1 → int_eq (added shares) mass ≡ false
left_too_little shares mass place d rest below left above =
    let count = (get_or shares place d).1 in
    let after : Shares = drop (place + 1) shares in
    let positive = (and_parts (int_le (pos 0) count) (are_all_positive after)
    (sym (at_drop_more are_all_positive shares place d below) ∙ left.positive)).1 in
    sym left.sum ∙ ap (λ (sum : ℤ). int_eq sum rest) (added_from shares place d below)
    ∙ more_than_left count (added after) rest (added_positive after positive) above

-- at the end they add up where nothing is left
pub left_last : (shares : Shares) (mass : ℤ) (place : ℕ) (rest : ℤ) → length shares ≤ place
    → IsLeft shares mass place rest
    → int_eq (pos 0) rest ≡ int_eq (added shares) mass
left_last shares mass place rest past left = sym (ap (λ (sum : ℤ). int_eq sum rest) (added_past shares place past))
    ∙ left.sum
