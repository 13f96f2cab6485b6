-- What the weight of one class layout is computed with: numbers that are small enough.
use Rattle.std.proofs.Common.{◌≡◌, ℕ, ◌+◌, ◌-◌, ◌*◌, ◌^◌, ◌≤◌, ◌<◌, List, [], ◌∷◌, length, take, drop, get_or, refl}
use Rattle.std.proofs.Common.{sym, ap, ◌∙◌, arith}
use Rattle.std.proofs.lemmas.List.{take_all}
use Rattle.std.specs.List.{sum}
use Rattle.std.proofs.lemmas.Nat.{pow-add}
use Rattle.std.proofs.Math.Nat.{mul-le-mul, pow-le-pow_right}
use Rattle.suit_game.specs.declared.limits.TheConstants.{HAND_SIZE}
use Rattle.suit_cards.specs.Cards.{ClassLayout, Sizes}
use Rattle.suit_cards.proofs.WhetherARankIsHeld.{length-IsHolding}
use Rattle.suit_cards.proofs.HoldingIsWhatItHolds.{IsHolding-others_of}
use Rattle.suit_num.specs.Binomials.{binomial}
use Rattle.suit_num.proofs.BinomialLaws.{binomial-le}
use Rattle.suit_game.specs.declared.question.Question.{Question}
use Rattle.suit_game.specs.Question.{missing}
use Rattle.suit_game.specs.Validity.{IsValid}
use Rattle.suit_game.specs.Weights.{weight_in_range}
use Rattle.suit_game.proofs.WhatAllLayoutsWeigh.{weight-small}
use Rattle.suit_game.specs.Blocks.{AreSizes}
use Rattle.suit_layouts.specs.ClassLayouts.{class_weight, ways_of}
use Rattle.suit_layouts.proofs.ClassWeights.{class_weight_counted}
use Rattle.suit_layouts.proofs.SumsByBlocks.{sum-cons}
use Rattle.suit_layouts.proofs.WhatHasWeightIsListed.{Contains-up_to}

-- one block's ways with those of the others
pub ways_small : (size count : ℕ) (sum_of here others : ℕ) → here ≡ binomial size count → others ≤ 2 ^ sum_of
    → here * others ≤ 2 ^ (size + sum_of)
ways_small size count sum_of here others is small =
    let low : here ≤ 2 ^ size = omega (arith, binomial-le size count) in
    let product : here * others ≤ 2 ^ size * 2 ^ sum_of = mul-le-mul low small in
    omega (arith, product, pow-add 2 size sum_of)

-- the ways of thirteen cards are at most 2 ^ 13
pub small_fits : (sum_of ways : ℕ) → sum_of ≤ HAND_SIZE → ways ≤ 2 ^ sum_of → ways ≤ 2 ^ 13
small_fits sum_of ways few small =
    let most : 2 ^ sum_of ≤ 2 ^ 13 = pow-le-pow_right (omega arith) few in
    omega arith

-- a suit has no more cards than thirteen
pub sizes_few : (question : Question) (sizes : Sizes) → AreSizes question sizes → sum sizes ≤ HAND_SIZE
sizes_few question sizes are =
    let missing_few : length (missing question) ≤ HAND_SIZE =
    length-IsHolding (missing question) (IsHolding-others_of question.north question.south) in
    omega (arith, are.filled)

-- where no way is left, the class layout weighs nothing
pub none_weighs : (question : Question) (sizes : Sizes) (counts : ClassLayout) (ways : ℕ) → AreSizes question sizes
    → ways ≡ ways_of sizes counts → ways ≡ 0
    → 0 ≡ class_weight question sizes counts
none_weighs question sizes counts ways are is none =
    let counted = class_weight_counted question sizes counts are.filled in
    let no_way : ways_of sizes counts ≡ 0 = sym is ∙ none in
    sym (counted ∙ rw no_way (omega arith))

-- where West can hold so many of each block, these are few
pub counts_few : (question : Question) (sizes : Sizes) (counts : ClassLayout) (ways : ℕ) → AreSizes question sizes
    → ways ≡ ways_of sizes counts → (ways ≡ 0 → ⊥)
    → sum counts ≤ HAND_SIZE
counts_few question sizes counts ways are is some =
    let positive : 0 < ways_of sizes counts = omega arith in
    omega (arith, (Contains-up_to sizes counts positive).1, sizes_few question sizes are)

-- the product fits
pub deals_fit : (question : Question) (sizes : Sizes) (count ways deals : ℕ) → IsValid question
    → AreSizes question sizes
    → ways ≤ 2 ^ sum sizes → deals ≡ weight_in_range question count → ways * deals ≤ 2 ^ 39
deals_fit question sizes count ways deals valid are small is =
    let low : ways ≤ 2 ^ 13 = small_fits (sum sizes) ways (sizes_few question sizes are) small in
    let light : deals ≤ 2 ^ 26 = omega (
      arith,
      weight-small question count (valid.vacant_w, valid.vacant_e, valid.places),
    ) in
    let product : ways * deals ≤ 2 ^ 13 * 2 ^ 26 = mul-le-mul low light in
    omega arith

-- and is the weight of the class layout
pub weighs : (question : Question) (sizes : Sizes) (counts : ClassLayout) (ways count deals : ℕ)
    → AreSizes question sizes
    → ways ≡ ways_of sizes counts → count ≡ sum counts → deals ≡ weight_in_range question count
    → ways * deals ≡ class_weight question sizes counts
weighs question sizes counts ways count deals are is_ways is_count is_deals =
    let here : deals ≡ weight_in_range question (sum counts) = is_deals ∙ ap (weight_in_range question) is_count in
    rw (is_ways, here) (sym (class_weight_counted question sizes counts are.filled))

-- the blocks after the first, as a slice has them
rest_of : (first : ℕ) (others : List ℕ) → take (length (first ∷ others) - 1) (drop 1 (first ∷ others)) ≡ others
rest_of first others = let long : length (first ∷ others) - 1 ≡ length others = omega arith in
    rw long (take_all (length others) others (omega arith))

-- with no block and no count there is one way
pub ways-none : (sizes : Sizes) (counts : ClassLayout) → length sizes ≡ 0 → length counts ≡ 0 → 1 ≡ ways_of sizes counts
unfolding ways_of
ways-none [] [] no_size no_count = refl
ways-none (size ∷ sizes) counts no_size no_count = absurd (omega arith)
ways-none [] (count ∷ counts) no_size no_count = absurd (omega arith)

-- as many counts as blocks, or else no way
pub ways_apart : (sizes : Sizes) (counts : ClassLayout) → (length sizes ≡ length counts → ⊥) → 0 ≡ ways_of sizes counts
unfolding ways_of
ways_apart [] [] apart = absurd (apart refl)
ways_apart [] (count ∷ counts) apart = refl
ways_apart (size ∷ sizes) [] apart = refl
ways_apart (size ∷ sizes) (count ∷ counts) apart =
    let none : 0 ≡ ways_of sizes counts = ways_apart sizes counts (λ same. apart (omega arith)) in
    rw (← none) (omega arith)

-- a first block with its count, and the others
pub record FirstWays (sizes counts others_sizes others_counts : List ℕ) (size count : ℕ) : Type 0 where
  pub ways : ways_of sizes counts ≡ binomial size count * ways_of others_sizes others_counts
  pub sum_of : sum sizes ≡ size + sum others_sizes

-- a slice that has a first element, by it and the others
pub first_ways : (sizes : Sizes) (counts : ClassLayout) → 1 ≤ length sizes → 1 ≤ length counts
    → FirstWays sizes counts (take (length sizes - 1) (drop 1 sizes)) (take (length counts - 1) (drop 1 counts))
    (get_or sizes 0 0) (get_or counts 0 0)
unfolding ways_of
first_ways [] counts some_size some_count = absurd (omega arith)
first_ways (size ∷ sizes) [] some_size some_count = absurd (omega arith)
first_ways (size ∷ sizes) (count ∷ counts) some_size some_count =
    let others_sizes = rest_of size sizes in
    let others_counts = rest_of count counts in
    record { ways = rw (others_sizes, others_counts) refl; sum_of = rw others_sizes (sum-cons size sizes) }
