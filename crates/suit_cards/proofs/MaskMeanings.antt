use Rattle.std.proofs.Common.{◌≡◌, ℕ, ◌+◌, ◌-◌, ◌*◌, ◌/◌, ◌%◌, ◌^◌, ◌<◌, zero, suc, min, max, true, false, not, ◌&&◌}
use Rattle.std.proofs.Common.{◌||◌, nat_eq, Bool, cond, List, [], ◌∷◌, length, refl, sym, ◌∙◌, ap, inl, inr, arith}
use Rattle.std.proofs.Common.{bit_and, bit_or}
use Rattle.std.specs.List.{filter, list_any}
use Rattle.std.specs.Int.RustNames.{count_ones}
use Rattle.std.proofs.lemmas.Bool.{cases_eq, eq-eqb, ne_eqb}
use Rattle.std.proofs.lemmas.Bool.Decides.{same_from_decides, Decides-eqb, Decides-like}
use Rattle.std.specs.Str.{bytes_eq}
use Rattle.std.specs.Cmp.Lexicographic.{bytes_decides}
use Rattle.std.proofs.lemmas.Nat.{or_lt, and_le_l, pow_below}
use Rattle.std.proofs.lemmas.Nat.Bits.{shr_and_one, bit_at-lt, bit_at_and, bit_at_or, bit_at_not, bit_at_ones}
use Rattle.std.proofs.lemmas.Nat.Bits.{bit_at_set_same, bit_at_set_other, bit_at_clear_same, bit_at_clear_other}
use Rattle.std.specs.Int.{bit_at, w16}
use Rattle.suit_cards.specs.Holdings.{holds, suit, with_rank, without_rank, others_of}
use Rattle.suit_cards.specs.Masks.{marks, ranks_of, mask_of, suit_is, mask_of-ranks_of}
use Rattle.suit_cards.proofs.WhetherARankIsHeld.{list_any-filter}
use Rattle.suit_cards.proofs.SuitRuns.{length-marked_lowest, filter_suit-agree, holds-filter_suit}

-- of ranks that pass one test, those that pass another pass both
ranks_that_pass_both : (p q : ℕ → Bool) (ranks : List ℕ)
    → filter q (filter p ranks) ≡ filter (λ rank. p rank && q rank) ranks
ranks_that_pass_both p q [] = refl
ranks_that_pass_both p q (rank ∷ ranks) =
    elim (p rank) as (λ b. filter q (cond b (rank ∷ filter p ranks) (filter p ranks))
    ≡ cond (b && q rank) (rank ∷ filter (λ y. p y && q y) ranks) (filter (λ y. p y && q y) ranks)) [
      | true ↦ ap (λ (rest : List ℕ). cond (q rank) (rank ∷ rest) rest) (ranks_that_pass_both p q ranks)
      | false ↦ ranks_that_pass_both p q ranks
    ]

-- the bit of a rank, shifted down, tells whether the rank is held
pub holds-ranks_of : (mask index rank : ℕ) → index + 2 ≡ rank → index < 13
    → nat_eq (bit_and (mask / 2 ^ index) 1) 1 ≡ holds (ranks_of mask) rank
holds-ranks_of mask index rank at below =
    let back : rank - 2 ≡ index = omega arith in
    rw (shr_and_one mask index) (sym (holds-filter_suit (marks mask) rank (omega arith) (omega arith) ∙ rw back refl))

-- as many ranks are held as bits are set
pub length-ranks_of : (mask : ℕ) → mask < 2 ^ 13 → count_ones mask ≡ length (ranks_of mask)
length-ranks_of mask small =
    let whole : mask % 2 ^ 13 ≡ mask = omega arith in
    sym (rw suit_is (length-marked_lowest mask 13 ∙ rw whole refl))

-- a set bit adds its rank
pub ranks_of-set : (mask index rank : ℕ) → index + 2 ≡ rank → index < 13
    → ranks_of (bit_or mask (1 * 2 ^ index % 65536)) ≡ with_rank (ranks_of mask) rank
ranks_of-set mask index rank at below =
    filter_suit-agree _ _ (λ other low high.
    rw (holds-filter_suit (marks mask) other low high)
    (elim (cases_eq rank other) [
      | inl same ↦
          let back : other - 2 ≡ index = omega arith in
          rw (eq-eqb rank other same, back, bit_at_set_same w16 mask index (omega arith)) refl
      | inr differs ↦
          let apart : other - 2 ≡ index → ⊥ = λ e. differs (omega arith) in
          rw (ne_eqb rank other differs, bit_at_set_other w16 mask index (omega arith) (other - 2) apart) refl
    ]))

-- a cleared bit takes its rank away
pub ranks_of-clear : (mask index rank : ℕ) → index + 2 ≡ rank → index < 13
    → ranks_of (bit_and mask (65535 - 1 * 2 ^ index % 65536)) ≡ without_rank (ranks_of mask) rank
ranks_of-clear mask index rank at below =
    filter_suit-agree _ (λ other. marks mask other && not (nat_eq rank other)) (λ other low high.
    elim (cases_eq rank other) [
      | inl same ↦
          let back : other - 2 ≡ index = omega arith in
          rw (eq-eqb rank other same, back, bit_at_clear_same w16 mask index (omega arith))
          (elim (nat_eq (bit_at mask index) 1) as (λ b. false ≡ (b && false)) [ true ↦ refl | false ↦ refl ])
      | inr differs ↦
          let apart : other - 2 ≡ index → ⊥ = λ e. differs (omega arith) in
          rw (
            ne_eqb rank other differs,
            bit_at_clear_other w16 mask index (omega arith) (other - 2)
                (omega arith) apart,
          )
          (elim (marks mask other) as (λ b. b ≡ (b && true)) [ true ↦ refl | false ↦ refl ])
    ])
    ∙ sym (ranks_that_pass_both (marks mask) (λ other. not (nat_eq rank other)) suit)

-- the lower of two bits is set where both are
both_bits : (x y : ℕ) → x < 2 → y < 2 → nat_eq (min x y) 1 ≡ (nat_eq x 1 && nat_eq y 1)
both_bits zero zero hx hy = refl
both_bits zero (suc zero) hx hy = refl
both_bits zero (suc (suc y)) hx hy = absurd (omega arith)
both_bits (suc zero) zero hx hy = refl
both_bits (suc (suc x)) zero hx hy = absurd (omega arith)
both_bits (suc zero) (suc zero) hx hy = refl
both_bits (suc zero) (suc (suc y)) hx hy = absurd (omega arith)
both_bits (suc (suc x)) (suc y) hx hy = absurd (omega arith)

-- the bits of both are the ranks held in both
pub ranks_of-both : (here there : ℕ) → ranks_of (bit_and here there) ≡ filter (holds (ranks_of there)) (ranks_of here)
ranks_of-both here there =
    filter_suit-agree _ (λ rank. marks here rank && holds (ranks_of there) rank) (λ rank low high.
    rw (holds-filter_suit (marks there) rank low high, bit_at_and here there (rank - 2))
    (both_bits (bit_at here (rank - 2)) (bit_at there (rank - 2)) (bit_at-lt _ _) (bit_at-lt _ _)))
    ∙ sym (ranks_that_pass_both (marks here) (holds (ranks_of there)) suit)

-- what is no bit of the higher is set where neither is
neither_bit : (x y : ℕ) → x < 2 → y < 2 → nat_eq (min (1 - max x y) 1) 1 ≡ not (nat_eq x 1 || nat_eq y 1)
neither_bit zero zero hx hy = refl
neither_bit zero (suc zero) hx hy = refl
neither_bit (suc zero) zero hx hy = refl
neither_bit (suc zero) (suc zero) hx hy = refl
neither_bit zero (suc (suc y)) hx hy = absurd (omega arith)
neither_bit (suc zero) (suc (suc y)) hx hy = absurd (omega arith)
neither_bit (suc (suc x)) y hx hy = absurd (omega arith)

-- the bits of neither are the other cards of the suit
pub ranks_of-neither : (here there : ℕ) → here < 2 ^ 13 → there < 2 ^ 13
    → ranks_of (bit_and (65535 - bit_or here there) 8191) ≡ others_of (ranks_of here) (ranks_of there)
ranks_of-neither here there small_here small_there =
    filter_suit-agree _ _ (λ rank low high.
    let k = rank - 2 in
    let within : k < 13 = omega arith in
    let fits : bit_or here there < 2 ^ 16 = or_lt 16 here there (omega arith) (omega arith) in
    rw (
      holds-filter_suit (marks here) rank low high,
      holds-filter_suit (marks there) rank low high,
      bit_at_and (65535 - bit_or here there) 8191 k,
      bit_at_ones 13 k within,
      bit_at_not w16 (bit_or here there) k fits (omega arith),
      bit_at_or here there k,
    )
    (neither_bit (bit_at here k) (bit_at there k) (bit_at-lt _ _) (bit_at-lt _ _)))

-- no bit is set where no rank is held
pub mask-none : (mask : ℕ) → mask < 2 ^ 13 → ranks_of mask ≡ [] → mask ≡ 0
mask-none mask small none = sym (mask_of-ranks_of mask small) ∙ ap mask_of none

-- no bit marks no rank
pub ranks_of-zero : ranks_of 0 ≡ []
unfolding suit
ranks_of-zero = refl

-- a set bit of a rank stays within the thirteen
pub set_small : (mask index : ℕ) → mask < 2 ^ 13 → index < 13 → bit_or mask (1 * 2 ^ index % 65536) < 2 ^ 13
set_small mask index small below =
    let bound : 2 ^ index < 2 ^ 13 = pow_below index 13 below in
    or_lt 13 mask (1 * 2 ^ index % 65536) small (omega arith)

-- the bits of both are none where no rank is in both
pub shared_bits : (here there : ℕ) → here < 2 ^ 13
    → not (nat_eq (bit_and here there) 0) ≡ list_any (holds (ranks_of there)) (ranks_of here)
shared_bits here there small =
    list_any-filter (holds (ranks_of there)) (ranks_of here) (bit_and here there)
    (λ none. mask-none (bit_and here there) (omega (arith, and_le_l here there)) (ranks_of-both here there ∙ none))
    (λ zero_bits. sym (ranks_of-both here there) ∙ ap ranks_of zero_bits ∙ ranks_of-zero)

-- masks are the same where their ranks are
pub same_masks : (here there : ℕ) → here < 2 ^ 13 → there < 2 ^ 13
    → nat_eq here there ≡ bytes_eq (ranks_of here) (ranks_of there)
same_masks here there small_here small_there =
    same_from_decides (nat_eq here there) (bytes_eq (ranks_of here) (ranks_of there)) (Decides-eqb here there)
    (Decides-like (bytes_eq (ranks_of here) (ranks_of there))
    (λ same. sym (mask_of-ranks_of here small_here) ∙ ap mask_of same ∙ mask_of-ranks_of there small_there)
    (ap ranks_of)
    (bytes_decides (ranks_of here) (ranks_of there)))
