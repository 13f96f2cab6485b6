-- Sums over all choices, grouped by how many cards of each block are chosen.
use Rattle.std.proofs.Common.{◌≡◌, ℕ, ◌+◌, ◌*◌, List, [], ◌∷◌, ◌++◌, map, length, take, drop, sym, ap, ◌∙◌, arith}
use Rattle.std.specs.List.{sum, sum_by, range_with_len}
use Rattle.std.proofs.lemmas.List.{take-append-drop, length-append, length-take-le, length-drop}
use Rattle.std.proofs.lemmas.List.Sums.{sum_by-cons}
use Rattle.suit_lists.proofs.Elements.{each_gives}
use Rattle.suit_lists.proofs.Sums.{sum_by-mul, sum_by_alike, sum_by_flat_map, sum_by_map, sum_by_same}
use Rattle.suit_cards.specs.Cards.{ClassLayout, Sizes}
use Rattle.suit_cards.specs.Holdings.{FallsBelow}
use Rattle.suit_num.specs.Binomials.{binomial}
use Rattle.suit_game.specs.Layouts.{choices_of}
use Rattle.suit_game.proofs.ChoiceSums.{choices_summed}
use Rattle.suit_game.specs.Blocks.{blocks_of, counts_in}
use Rattle.suit_layouts.specs.ClassLayouts.{counts_up_to, ways_of}
use Rattle.suit_layouts.proofs.HowManyOfEachBlock.{counts_joined, falls_after}
use Rattle.suit_layouts.proofs.ChoicesOfTwoLists.{AreHeld, choices_held, choices_joined}

-- a sum by its first number
pub sum-cons : (x : ℕ) (xs : List ℕ) → sum (x ∷ xs) ≡ x + sum xs
sum-cons x xs = sum_by-cons (λ (n : ℕ). n) x xs

-- a sum over all counts, by the first count
pub up_to-sum : (f : List ℕ → ℕ) (size : ℕ) (sizes : Sizes)
    → sum_by f (counts_up_to (size ∷ sizes))
    ≡ sum_by (λ count. sum_by (λ counts. f (count ∷ counts)) (counts_up_to sizes)) (range_with_len 0 (size + 1))
unfolding counts_up_to
up_to-sum f size sizes =
    let pieces : ℕ → List (List ℕ) = λ count. map (λ counts. count ∷ counts) (counts_up_to sizes) in
    sum_by_flat_map f pieces (range_with_len 0 (size + 1))
    ∙ sum_by_same (λ count. sum_by f (pieces count))
    (λ count. sum_by (λ counts. f (count ∷ counts)) (counts_up_to sizes)) (range_with_len 0 (size + 1))
    (λ count. sum_by_map f (λ counts. count ∷ counts) (counts_up_to sizes))

-- one choice, of the first block and of the others
joined_term : (f : List ℕ → ℕ → ℕ) (top size : ℕ) (sizes cards taken more : List ℕ) → FallsBelow top cards
    → AreHeld (take size cards) taken → AreHeld (drop size cards) more
    → f (counts_in (blocks_of cards (size ∷ sizes)) (taken ++ more)) (length (taken ++ more))
    ≡ f (length taken ∷ counts_in (blocks_of (drop size cards) sizes) more) (length taken + length more)
joined_term f top size sizes cards taken more falls first later =
    let counts = counts_joined top size sizes cards taken more falls first later in
    let long = length-append taken more in
    cc

-- one list of counts, by its first count
counts_term : (f : List ℕ → ℕ → ℕ) (size : ℕ) (sizes : Sizes) (count : ℕ) (counts : ClassLayout)
    → binomial size count * (ways_of sizes counts * f (count ∷ counts) (count + sum counts))
    ≡ ways_of (size ∷ sizes) (count ∷ counts) * f (count ∷ counts) (sum (count ∷ counts))
unfolding ways_of
counts_term f size sizes count counts =
    let all : sum (count ∷ counts) ≡ count + sum counts = sum-cons count counts in
    rw all (omega arith)

-- what depends on the counts of a choice and on its length is summed over all choices by the counts
pub grouped : (f : List ℕ → ℕ → ℕ) (top : ℕ) (sizes cards : List ℕ) → FallsBelow top cards → sum sizes ≡ length cards
    → sum_by (λ west. f (counts_in (blocks_of cards sizes) west) (length west)) (choices_of cards)
    ≡ sum_by (λ counts. ways_of sizes counts * f counts (sum counts)) (counts_up_to sizes)
unfolding blocks_of choices_of counts_up_to ways_of
grouped f top [] [] falls filled = omega arith
grouped f top [] (card ∷ cards) falls filled = absurd (omega arith)
grouped f top (size ∷ sizes) cards falls filled =
    let first = take size cards in
    let later = drop size cards in
    let filled_so : size + sum sizes ≡ length cards = sym (sum-cons size sizes) ∙ filled in
    let long : length first ≡ size = length-take-le size cards (omega arith) in
    let filled_later : sum sizes ≡ length later = omega (arith, length-drop size cards) in
    let lower = falls_after top size cards falls in
    let at_choice : List ℕ → ℕ = λ west. f (counts_in (blocks_of cards (size ∷ sizes)) west) (length west) in
    let at_count : ℕ → ℕ = λ count. sum_by
    (λ more. f (count ∷ counts_in (blocks_of later sizes) more) (count + length more)) (choices_of later) in
    let at_counts : List ℕ → ℕ = λ counts. ways_of (size ∷ sizes) counts * f counts (sum counts) in
    let split : sum_by at_choice (choices_of cards)
    ≡ sum_by (λ taken. sum_by (λ more. at_choice (taken ++ more)) (choices_of later)) (choices_of first) =
    ap (λ (all : List ℕ). sum_by at_choice (choices_of all)) (sym (take-append-drop size cards))
    ∙ choices_joined at_choice first later in
    let by_count : sum_by (λ taken. sum_by (λ more. at_choice (taken ++ more)) (choices_of later)) (choices_of first)
    ≡ sum_by (λ taken. at_count (length taken)) (choices_of first) =
    sum_by_alike (λ taken. sum_by (λ more. at_choice (taken ++ more)) (choices_of later))
    (λ taken. at_count (length taken)) (choices_of first)
    (each_gives (AreHeld first) (λ taken. sum_by (λ more. at_choice (taken ++ more)) (choices_of later)
    ≡ at_count (length taken)) (choices_of first)
    (λ taken held. sum_by_alike (λ more. at_choice (taken ++ more))
    (λ more. f (length taken ∷ counts_in (blocks_of later sizes) more) (length taken + length more))
    (choices_of later)
    (each_gives (AreHeld later) (λ more. at_choice (taken ++ more)
    ≡ f (length taken ∷ counts_in (blocks_of later sizes) more) (length taken + length more)) (choices_of later)
    (λ more after. joined_term f top size sizes cards taken more falls held after) (choices_held later)))
    (choices_held first)) in
    let summed : sum_by (λ taken. at_count (length taken)) (choices_of first)
    ≡ sum_by (λ count. binomial size count * at_count count) (range_with_len 0 (size + 1)) =
    choices_summed at_count first
    ∙ ap (λ (n : ℕ). sum_by (λ count. binomial n count * at_count count) (range_with_len 0 (n + 1))) long in
    let each_count : (count : ℕ) → binomial size count * at_count count
    ≡ sum_by (λ counts. at_counts (count ∷ counts)) (counts_up_to sizes) =
    λ count.
    ap (λ (n : ℕ). binomial size count * n)
    (grouped (λ counts length. f (count ∷ counts) (count + length)) lower.0 sizes later lower.1 filled_later)
    ∙ sym (sum_by-mul (binomial size count) (λ counts. ways_of sizes counts * f (count ∷ counts) (count + sum counts))
    (counts_up_to sizes))
    ∙ sum_by_same (λ counts. binomial size count * (ways_of sizes counts * f (count ∷ counts) (count + sum counts)))
    (λ counts. at_counts (count ∷ counts)) (counts_up_to sizes)
    (counts_term f size sizes count) in
    split ∙ by_count ∙ summed
    ∙ sum_by_same (λ count. binomial size count * at_count count)
    (λ count. sum_by (λ counts. at_counts (count ∷ counts)) (counts_up_to sizes)) (range_with_len 0 (size + 1))
    each_count
    ∙ sym (up_to-sum at_counts size sizes)
