-- How many counts there are.
use Rattle.std.proofs.Common.{◌≡◌, ℕ, ◌+◌, ◌-◌, ◌*◌, ◌≤◌, Bool, true, nat_lt, List, [], ◌∷◌, map, length, get_or, refl}
use Rattle.std.proofs.Common.{ap, ◌∙◌, arith}
use Rattle.std.specs.Prelude.{nat_le}
use Rattle.std.specs.List.{range_with_len, sum}
use Rattle.std.proofs.lemmas.Bool.{agree_below, agree_below_at, leb-true}
use Rattle.std.proofs.lemmas.List.{length-map}
use Rattle.std.proofs.lemmas.List.Concat.{length-flat_map}
use Rattle.std.proofs.lemmas.List.FromFn.{length-range_with_len}
use Rattle.std.proofs.lemmas.List.Sums.{length-filter, count_by-le-length}
use Rattle.std.proofs.Math.Nat.{mul-le-mul_left}
use Rattle.suit_game.specs.declared.limits.TheConstants.{MOST_MISSING_AND_BLOCKS}
use Rattle.suit_lists.proofs.Sums.{sum_by_each}
use Rattle.suit_cards.specs.Cards.{Sizes}
use Rattle.suit_game.specs.declared.question.Question.{Question}
use Rattle.suit_game.specs.Blocks.{AreSizes}
use Rattle.suit_layouts.specs.ClassLayouts.{class_layouts, class_weight, counts_up_to, weighed}
use Rattle.suit_layouts.proofs.SumsByBlocks.{sum-cons}
use Rattle.suit_layouts.specs.declared.class_list.TheConstants.{MOST_CLASS_LAYOUTS}

-- each count of the first block goes with all counts of the others
pub length-up_to : (size : ℕ) (sizes : Sizes)
    → length (counts_up_to (size ∷ sizes)) ≡ (size + 1) * length (counts_up_to sizes)
unfolding counts_up_to
length-up_to size sizes =
    let pieces : ℕ → List (List ℕ) = λ count. map (λ counts. count ∷ counts) (counts_up_to sizes) in
    length-flat_map pieces (range_with_len 0 (size + 1))
    ∙ sum_by_each (length (counts_up_to sizes)) (λ count. length (pieces count)) (range_with_len 0 (size + 1))
    (λ count. length-map (counts_up_to sizes) (λ counts. count ∷ counts))
    ∙ ap (λ (n : ℕ). n * length (counts_up_to sizes)) (length-range_with_len 0 (size + 1))

-- the greatest product of numbers that add up to so much
best : ℕ → ℕ
best sum_of = get_or (1 ∷ 1 ∷ 2 ∷ 3 ∷ 4 ∷ 6 ∷ 9 ∷ 12 ∷ 18 ∷ 27 ∷ 36 ∷ 54 ∷ 81 ∷ 108 ∷ 162 ∷ []) sum_of 0

-- whether one factor more keeps below, whatever the others come to
abbrev fits_at : ℕ → Bool
fits_at factor = agree_below (λ others. nat_le (factor * best others) (best (factor + others))) (λ others. true)
    (15 - factor)

-- it is so for each factor
all_fit : agree_below fits_at (λ factor. true) 15 ≡ true
unfolding best
all_fit = refl

-- one factor more keeps below the greatest product
best_more : (factor others : ℕ) → factor + others ≤ MOST_MISSING_AND_BLOCKS
    → factor * best others ≤ best (factor + others)
best_more factor others few =
    let fits : fits_at factor ≡ true = agree_below_at fits_at (λ n. true) 15 factor all_fit (omega arith) in
    leb-true (factor * best others) (best (factor + others))
    (agree_below_at (λ n. nat_le (factor * best n) (best (factor + n))) (λ n. true) (15 - factor) others fits
    (omega arith))

-- the greatest products are at most 162
whole_fits : agree_below (λ n. nat_le (best n) MOST_CLASS_LAYOUTS) (λ n. true) 15 ≡ true
unfolding best
whole_fits = refl

-- no factors make 1
none_left : 1 ≤ best 0
unfolding best
none_left = omega arith

-- there are no more counts than the greatest product
up_to_best : (sizes : Sizes) → sum sizes + length sizes ≤ MOST_MISSING_AND_BLOCKS
    → length (counts_up_to sizes) ≤ best (sum sizes + length sizes)
unfolding counts_up_to
up_to_best [] few = none_left
up_to_best (size ∷ sizes) few =
    let parts : sum (size ∷ sizes) + length (size ∷ sizes) ≡ size + 1 + (sum sizes + length sizes) =
    omega (arith, sum-cons size sizes) in
    let others = up_to_best sizes (omega arith) in
    let product = mul-le-mul_left (size + 1) others in
    let more = best_more (size + 1) (sum sizes + length sizes) (omega arith) in
    rw parts (omega (arith, length-up_to size sizes, product, more))

-- no blocks that the rules allow have more than 162 counts
pub up_to_few : (sizes : Sizes) → sum sizes + length sizes ≤ MOST_MISSING_AND_BLOCKS
    → length (counts_up_to sizes) ≤ MOST_CLASS_LAYOUTS
up_to_few sizes few =
    let fits = leb-true (best (sum sizes + length sizes)) MOST_CLASS_LAYOUTS
    (agree_below_at (λ n. nat_le (best n) MOST_CLASS_LAYOUTS) (λ n. true) 15 (sum sizes + length sizes) whole_fits
    (omega arith)) in
    omega (arith, up_to_best sizes few, fits)

-- nor class layouts
pub class_layouts_few : (question : Question) (sizes : Sizes) → AreSizes question sizes
    → length (class_layouts question sizes) ≤ MOST_CLASS_LAYOUTS
unfolding class_layouts weighed
class_layouts_few question sizes are =
    let with_weight : List ℕ → List ℕ × ℕ = λ counts. (counts, class_weight question sizes counts) in
    let all = map with_weight (counts_up_to sizes) in
    let has_weight : List ℕ × ℕ → Bool = λ layout. nat_lt 0 layout.1 in
    omega (
      arith,
      length-filter has_weight all,
      count_by-le-length has_weight all,
      length-map (counts_up_to sizes) with_weight,
      up_to_few sizes (omega (arith, are.filled, are.few)),
    )
