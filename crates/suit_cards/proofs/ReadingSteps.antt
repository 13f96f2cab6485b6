use Rattle.std.proofs.Common.{◌≡◌, ℕ, ◌+◌, ◌<◌, true, false, nat_eq, List, [], ◌∷◌, length, drop, get_or, Some, None}
use Rattle.std.proofs.Common.{refl, arith}
use Rattle.std.specs.List.{starts_with}
use Rattle.std.specs.Str.{bytes_eq}
use Rattle.std.specs.Prelude.{codes}
use Rattle.std.proofs.lemmas.Bool.{false≢true}
use Rattle.std.proofs.lemmas.Cmp.{nat_eq_equiv}
use Rattle.std.proofs.Math.Bool.{and-false}
use Rattle.suit_cards.specs.Ranks.{rank_named}
use Rattle.suit_cards.specs.Reading.{spots_from, BeginsNoRank, BeginsRank}

-- the two bytes of a ten, as the code tests for them
ten_begins : (byte next : ℕ) (rest : List ℕ)
    → bytes_eq (byte ∷ next ∷ []) (codes "10") ≡ starts_with nat_eq (byte ∷ next ∷ rest) (codes "10")
ten_begins byte next rest = rw (nat_eq_equiv.symm byte 49, nat_eq_equiv.symm next 48) refl

-- the two bytes of a ten
pub begins_ten : (text : List ℕ) (rank : ℕ) → rank ≡ 10 → starts_with nat_eq text (codes "10") ≡ true
    → BeginsRank text rank 2
unfolding spots_from
begins_ten [] rank is begins = absurd (false≢true begins)
begins_ten (byte ∷ []) rank is begins = absurd (false≢true (rw and-false at begins))
begins_ten (byte ∷ next ∷ rest) rank is begins =
    record { some = omega arith; within = omega arith; cut = λ index. rw (is, ten_begins byte next rest, begins) refl }

-- where no ten begins, one byte is cut off
one_cut : (text : List ℕ) → 0 < length text → starts_with nat_eq text (codes "10") ≡ false → (index : ℕ)
    → spots_from index text
    ≡ record { index = index; rank = rank_named (get_or text 0 0) } ∷ spots_from (index + 1) (drop 1 text)
unfolding spots_from
one_cut [] some other index = absurd (omega arith)
one_cut (byte ∷ []) some other index = refl
one_cut (byte ∷ next ∷ rest) some other index = rw (ten_begins byte next rest, other) refl

-- one byte that stands for a rank
pub begins_one : (text : List ℕ) (rank : ℕ) → 0 < length text → starts_with nat_eq text (codes "10") ≡ false
    → rank_named (get_or text 0 0) ≡ Some rank → BeginsRank text rank 1
begins_one text rank some other named = record {
  some = omega arith;
  within = omega arith;
  cut = λ index. rw (← named) (one_cut text some other index);
}

-- one byte that stands for none
pub begins_none : (text : List ℕ) → 0 < length text → starts_with nat_eq text (codes "10") ≡ false
    → rank_named (get_or text 0 0) ≡ None → BeginsNoRank text
begins_none text some other named = λ index.
    (spots_from (index + 1) (drop 1 text), rw (← named) (one_cut text some other index))
