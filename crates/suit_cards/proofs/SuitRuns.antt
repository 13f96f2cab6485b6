use Rattle.std.proofs.Common.{◌≡◌, ℕ, ◌+◌, ◌-◌, ◌*◌, ◌%◌, ◌^◌, ◌<◌, ◌≤◌, zero, suc, Bool, true, false, cond, ◌&&◌, ◌||◌}
use Rattle.std.proofs.Common.{nat_eq, List, [], ◌∷◌, length, refl, sym, ◌∙◌, ap, inl, inr, arith}
use Rattle.std.specs.List.{filter}
use Rattle.std.specs.Int.{bit_at}
use Rattle.std.specs.Int.RustNames.{count_ones}
use Rattle.std.proofs.lemmas.Bool.{cases_eq, eq-eqb, ne_eqb}
use Rattle.std.proofs.lemmas.Nat.{mod-pow-add, ones_cat, ones_le_self, zero_from_ones, pow_pos}
use Rattle.std.proofs.lemmas.Nat.Bits.{bit_at-lt}
use Rattle.suit_cards.specs.Holdings.{FallsBelow, IsHolding, holds, suit}
use Rattle.suit_cards.specs.Masks.{marks, lowest, suit_is}

-- what a test keeps of the lowest ranks falls
pub FallsBelow-filter_lowest : (p : ℕ → Bool) (n top : ℕ) → n + 2 ≤ top → FallsBelow top (filter p (lowest n))
unfolding lowest
FallsBelow-filter_lowest p zero top h = tt
FallsBelow-filter_lowest p (suc n) top h =
    elim (p (n + 2)) as (λ b. FallsBelow top (cond b ((n + 2) ∷ filter p (lowest n)) (filter p (lowest n)))) [
      | true ↦ (omega arith, omega arith, FallsBelow-filter_lowest p n (n + 2) (omega arith))
      | false ↦ FallsBelow-filter_lowest p n top (omega arith)
    ]

-- two tests that agree on the lowest ranks keep the same ones
pub filter_lowest-agree : (p q : ℕ → Bool) (n : ℕ) → ((rank : ℕ) → 2 ≤ rank → rank < n + 2 → p rank ≡ q rank)
    → filter p (lowest n) ≡ filter q (lowest n)
unfolding lowest
filter_lowest-agree p q zero agree = refl
filter_lowest-agree p q (suc n) agree =
    let here : p (n + 2) ≡ q (n + 2) = agree (n + 2) (omega arith) (omega arith) in
    let rest = filter_lowest-agree p q n (λ rank low high. agree rank low (omega arith)) in
    cc

-- what a list with one rank that may be there holds
holds-cond : (b : Bool) (first rank : ℕ) (rest : List ℕ)
    → holds (cond b (first ∷ rest) rest) rank ≡ ((b && nat_eq rank first) || holds rest rank)
holds-cond true first rank rest = refl
holds-cond false first rank rest = refl

-- the lowest ranks hold none above them
absent-filter_lowest : (p : ℕ → Bool) (n rank : ℕ) → n + 2 ≤ rank → holds (filter p (lowest n)) rank ≡ false
unfolding lowest
absent-filter_lowest p zero rank high = refl
absent-filter_lowest p (suc n) rank high =
    let other : nat_eq rank (n + 2) ≡ false = ne_eqb rank (n + 2) (λ e. omega arith) in
    holds-cond (p (n + 2)) (n + 2) rank (filter p (lowest n))
    ∙ rw (other, absent-filter_lowest p n rank (omega arith))
    (elim (p (n + 2)) as (λ b. ((b && false) || false) ≡ false) [ true ↦ refl | false ↦ refl ])

-- what a test keeps of the lowest ranks holds a rank where the test passes it
pub holds-filter_lowest : (p : ℕ → Bool) (n rank : ℕ) → 2 ≤ rank → rank < n + 2
    → holds (filter p (lowest n)) rank ≡ p rank
unfolding lowest
holds-filter_lowest p zero rank low high = absurd (omega arith)
holds-filter_lowest p (suc n) rank low high =
    holds-cond (p (n + 2)) (n + 2) rank (filter p (lowest n))
    ∙ elim (cases_eq rank (n + 2)) [
      | inl same ↦ rw (eq-eqb rank (n + 2) same, absent-filter_lowest p n rank (omega arith))
          (rw same (elim (p (n + 2)) as (λ b. ((b && true) || false) ≡ b) [ true ↦ refl | false ↦ refl ]))
      | inr other ↦ rw (ne_eqb rank (n + 2) other, holds-filter_lowest p n rank low (omega arith))
          (elim (p (n + 2)) as (λ b. ((b && false) || p rank) ≡ p rank) [ true ↦ refl | false ↦ refl ])
    ]

-- the length of a list with one rank that may be there
length-cond : (b : Bool) (first : ℕ) (rest : List ℕ) → length (cond b (first ∷ rest) rest) ≡ cond b 1 0 + length rest
length-cond true first rest = omega arith
length-cond false first rest = omega arith

-- no bit of 0 is set
no_ones : count_ones 0 ≡ 0
no_ones = omega (arith, ones_le_self 0)

-- one bit of 1 is set
one_one : count_ones 1 ≡ 1
one_one =
    elim (cases_eq (count_ones 1) 0) [
      | inl none ↦ absurd (let wrong : 1 ≡ 0 = zero_from_ones 1 none in omega arith)
      | inr some ↦ omega (arith, ones_le_self 1)
    ]

-- a bit counts itself
ones_bit : (bit : ℕ) → bit < 2 → cond (nat_eq bit 1) 1 0 ≡ count_ones bit
ones_bit zero h = sym no_ones
ones_bit (suc zero) h = sym one_one
ones_bit (suc (suc bit)) h = absurd (omega arith)

-- as many of the lowest ranks are marked as bits are set
pub length-marked_lowest : (mask n : ℕ) → length (filter (marks mask) (lowest n)) ≡ count_ones (mask % 2 ^ n)
unfolding lowest
length-marked_lowest mask zero =
    let none : mask % 2 ^ 0 ≡ 0 = omega arith in rw none (sym no_ones)
length-marked_lowest mask (suc n) =
    let index : n + 2 - 2 ≡ n = omega arith in
    let next : 1 + n ≡ suc n = omega arith in
    let split : mask % 2 ^ suc n ≡ bit_at mask n * 2 ^ n + mask % 2 ^ n = rw next at (mod-pow-add mask 1 n) in
    length-cond (marks mask (n + 2)) (n + 2) (filter (marks mask) (lowest n))
    ∙ rw (index, ones_bit (bit_at mask n) (bit_at-lt mask n), length-marked_lowest mask n, split)
    (sym (ones_cat n (bit_at mask n) (mask % 2 ^ n) (omega (arith, pow_pos n))))

-- two tests that agree on each rank keep the same ranks of the suit
pub filter_suit-agree : (p q : ℕ → Bool) → ((rank : ℕ) → 2 ≤ rank → rank < 15 → p rank ≡ q rank)
    → filter p suit ≡ filter q suit
filter_suit-agree p q agree = rw suit_is (filter_lowest-agree p q 13 agree)

-- what a test keeps of the suit is a holding
pub IsHolding-filter_suit : (p : ℕ → Bool) → IsHolding (filter p suit)
IsHolding-filter_suit p = rw suit_is (FallsBelow-filter_lowest p 13 15 (omega arith))

-- what a test keeps of the suit holds a rank where the test passes it
pub holds-filter_suit : (p : ℕ → Bool) (rank : ℕ) → 2 ≤ rank → rank < 15 → holds (filter p suit) rank ≡ p rank
holds-filter_suit p rank low high = rw suit_is (holds-filter_lowest p 13 rank low high)
