use Rattle.std.proofs.Common.{◌≡◌, ℕ, ◌+◌, ◌-◌, ◌/◌, ◌^◌, ◌<◌, zero, suc, cond, nat_eq, List, [], ◌∷◌, ◌++◌, refl, sym}
use Rattle.std.proofs.Common.{◌∙◌, arith, bit_and, append_assoc, append-nil}
use Rattle.std.specs.List.{filter}
use Rattle.std.proofs.lemmas.Bool.{eq-eqb, ne_eqb}
use Rattle.std.proofs.lemmas.Nat.Bits.{shr_and_one}
use Rattle.suit_cards.specs.Masks.{marks, lowest}

-- what is marked of one rank more
run_step : (mask below : ℕ) → filter (marks mask) (lowest (suc below))
    ≡ cond (nat_eq (bit_and (mask / 2 ^ below) 1) 1) ((below + 2) ∷ filter (marks mask) (lowest below))
    (filter (marks mask) (lowest below))
unfolding lowest
run_step mask below = let back : below + 2 - 2 ≡ below = omega arith in rw (shr_and_one mask below, back) refl

-- the next rank down is marked
pub run-marked : (mask index rank : ℕ) (items whole : List ℕ) → 0 < index → rank ≡ index - 1 + 2
    → bit_and (mask / 2 ^ (index - 1)) 1 ≡ 1
    → items ++ filter (marks mask) (lowest index) ≡ whole
    → (items ++ rank ∷ []) ++ filter (marks mask) (lowest (index - 1)) ≡ whole
run-marked mask zero rank items whole pos is set so_far = absurd (omega arith)
run-marked mask (suc below) rank items whole pos is set so_far =
    let back : suc below - 1 ≡ below = omega arith in
    rw (append_assoc, is, back) (rw (run_step mask below, eq-eqb _ 1 (rw back at set)) at so_far)

-- the next rank down is not marked
pub run-unmarked : (mask index : ℕ) (items whole : List ℕ) → 0 < index
    → (bit_and (mask / 2 ^ (index - 1)) 1 ≡ 1 → ⊥)
    → items ++ filter (marks mask) (lowest index) ≡ whole
    → items ++ filter (marks mask) (lowest (index - 1)) ≡ whole
run-unmarked mask zero items whole pos clear so_far = absurd (omega arith)
run-unmarked mask (suc below) items whole pos clear so_far =
    let back : suc below - 1 ≡ below = omega arith in
    rw back (rw (run_step mask below, ne_eqb _ 1 (rw back at clear)) at so_far)

-- no rank is left
pub run-over : (mask index : ℕ) (items whole : List ℕ) → index ≡ 0
    → items ++ filter (marks mask) (lowest index) ≡ whole → items ≡ whole
unfolding lowest
run-over mask index items whole over so_far = sym (append-nil items) ∙ rw over at so_far
