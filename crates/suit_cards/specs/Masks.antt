use Rattle.std.specs.Prelude.{◌≡◌, ℕ, ◌+◌, ◌-◌, ◌*◌, ◌%◌, ◌^◌, ◌<◌, ◌==◌, nat_eq, Bool, true, false, cond, [], ◌∷◌}
use Rattle.std.specs.Prelude.{filter, refl}
use Rattle.std.specs.Int.{bit_at}
use Rattle.std.proofs.Common.{zero, suc, sym, ◌∙◌, arith, zero-add}
use Rattle.std.proofs.lemmas.Nat.{mod-pow-add}
use Rattle.std.proofs.lemmas.Nat.Bits.{bit_at-lt}
use Rattle.suit_cards.specs.Holdings.{suit}
use Rattle.suit_cards.specs.Cards.{Cards}

-- the bit for a rank is set: the lowest bit is the two's
abbrev pub marks : ℕ → ℕ → Bool
marks mask rank = bit_at mask (rank - 2) == 1

-- the ranks whose bits are set, falling
abbrev pub ranks_of : ℕ → Cards
ranks_of mask = filter (marks mask) suit

-- the bits of ranks that differ
abbrev pub mask_of : Cards → ℕ
mask_of [] = 0
mask_of (rank ∷ rest) = 2 ^ (rank - 2) + mask_of rest

-- so many of the lowest ranks, falling
unfoldable pub lowest : ℕ → Cards
lowest zero = []
lowest (suc n) = (n + 2) ∷ lowest n

-- the suit is its thirteen lowest ranks
pub suit_is : suit ≡ lowest 13
unfolding suit lowest
suit_is = refl

-- the bits of a list with one rank that may be there
mask_of-cond : (b : Bool) (rank : ℕ) (rest : Cards)
    → mask_of (cond b (rank ∷ rest) rest) ≡ cond b (2 ^ (rank - 2)) 0 + mask_of rest
mask_of-cond true rank rest = refl
mask_of-cond false rank rest = sym (zero-add (mask_of rest))

-- a bit chooses between a worth and nothing
times_bit : (bit worth : ℕ) → bit < 2 → cond (nat_eq bit 1) worth 0 ≡ bit * worth
times_bit zero worth h = omega arith
times_bit (suc zero) worth h = omega arith
times_bit (suc (suc bit)) worth h = absurd (omega arith)

-- the bits of the lowest ranks that a mask marks are the lowest bits of the mask
mask_of-lowest : (mask n : ℕ) → mask_of (filter (marks mask) (lowest n)) ≡ mask % 2 ^ n
unfolding lowest
mask_of-lowest mask zero = omega arith
mask_of-lowest mask (suc n) =
    let index : n + 2 - 2 ≡ n = omega arith in
    let next : 1 + n ≡ suc n = omega arith in
    let bit = times_bit (bit_at mask n) (2 ^ n) (bit_at-lt mask n) in
    mask_of-cond (marks mask (n + 2)) (n + 2) (filter (marks mask) (lowest n))
    ∙ rw index (rw (bit, mask_of-lowest mask n) (sym (rw next at (mod-pow-add mask 1 n))))

-- the bits of the ranks that a mask marks are the mask
pub mask_of-ranks_of : (mask : ℕ) → mask < 2 ^ 13 → mask_of (ranks_of mask) ≡ mask
mask_of-ranks_of mask small = rw suit_is (mask_of-lowest mask 13 ∙ omega arith)
