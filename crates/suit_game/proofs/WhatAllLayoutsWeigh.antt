-- How much all layouts weigh together.
use Rattle.std.proofs.Common.{◌≡◌, ℕ, zero, suc, ◌+◌, ◌-◌, ◌*◌, ◌^◌, ◌≤◌, Bool, true, false, List, [], ◌∷◌, length}
use Rattle.std.proofs.Common.{refl, sym, ap, ◌∙◌, inl, inr, arith}
use Rattle.std.specs.Prelude.{nat_le, if◌then◌else◌}
use Rattle.std.specs.List.{sum_by, range_with_len}
use Rattle.std.proofs.lemmas.Bool.{cases_lt, le-leb, lt-leb}
use Rattle.std.proofs.lemmas.List.Sums.{sum_by-le-sum_by}
use Rattle.std.proofs.Math.Nat.{pow-le-pow_right, mul-le-mul}
use Rattle.suit_num.specs.Binomials.{next_row, binomial_row, binomial}
use Rattle.suit_num.proofs.BinomialLaws.{pascal, binomial-none, binomial_past, binomial-le}
use Rattle.suit_game.specs.declared.question.Question.{Question}
use Rattle.suit_game.specs.Question.{missing}
use Rattle.suit_game.specs.Layouts.{choices_of, is_west_length, layouts, weight, total}
use Rattle.suit_game.specs.Validity.{IsValid}
use Rattle.suit_game.specs.Weights.{weight_in_range, HasPlaces}
use Rattle.suit_game.proofs.ChoiceSums.{range_sum_more, choices_split, choices_summed}
use Rattle.suit_game.specs.declared.limits.TheConstants.{MOST_TOTAL, HAND_SIZE}
use Rattle.suit_lists.proofs.Sums.{sum_by_filter, sum_by_none, sum_by_same}

-- the ways to choose so many among the others that the whole is made
abbrev pub fill : ℕ → ℕ → ℕ → ℕ
fill others whole count = if nat_le count whole then binomial others (whole - count) else 0

fill-none : (others whole : ℕ) → fill others whole 0 ≡ binomial others whole
fill-none others whole =
    let fits : nat_le 0 whole ≡ true = le-leb 0 whole (omega arith) in
    let all : whole - 0 ≡ whole = omega arith in
    rw (fits, all) refl

fill-past : (others count : ℕ) → fill others 0 (suc count) ≡ 0
fill-past others count = let past : nat_le (suc count) 0 ≡ false = lt-leb (suc count) 0 (omega arith) in rw past refl

fill-next : (others whole count : ℕ) → fill others (suc whole) (suc count) ≡ fill others whole count
fill-next others whole count = elim (cases_lt whole count) [
  | inl past ↦
      let here : nat_le count whole ≡ false = lt-leb count whole past in
      let next : nat_le (suc count) (suc whole) ≡ false = lt-leb (suc count) (suc whole) (omega arith) in
      rw (here, next) refl
  | inr fits ↦
      let here : nat_le count whole ≡ true = le-leb count whole fits in
      let next : nat_le (suc count) (suc whole) ≡ true = le-leb (suc count) (suc whole) (omega arith) in
      let rest : suc whole - suc count ≡ whole - count = omega arith in
      rw (here, next, rest) refl
]

-- by Pascal: the first card is one of the whole or not
pub choices_filled : (cards : List ℕ) (others whole : ℕ)
    → sum_by (λ taken. if nat_le (length taken) whole then binomial others (whole - length taken)
    else 0) (choices_of cards)
    ≡ binomial (others + length cards) whole
unfolding choices_of
choices_filled [] others whole = let all : others + 0 ≡ others = omega arith in
    rw all (omega (arith, fill-none others whole))
choices_filled (card ∷ cards) others zero =
    omega (
      arith,
      choices_split (fill others 0) card cards,
      choices_filled cards others 0,
      binomial-none (others + length cards),
      binomial-none (others + suc (length cards)),
      sum_by_none (λ (taken : List ℕ). fill others 0 (suc (length taken))) (choices_of cards)
          (λ taken. fill-past others (length taken)),
    )
choices_filled (card ∷ cards) others (suc whole) =
    let more : others + suc (length cards) ≡ suc (others + length cards) = omega arith in
    rw more (omega (
      arith,
      choices_split (fill others (suc whole)) card cards,
      choices_filled cards others whole,
      choices_filled cards others (suc whole),
      pascal (others + length cards) whole,
      sum_by_same (λ (taken : List ℕ). fill others (suc whole) (suc (length taken)))
          (λ (taken : List ℕ). fill others whole (length taken)) (choices_of cards)
          (λ taken. fill-next others whole (length taken)),
    ))

-- the total, over the choices
total_of_choices : (question : Question)
    → total question ≡ sum_by (λ west. weight_in_range question (length west)) (choices_of (missing question))
unfolding layouts
total_of_choices question =
    sum_by_filter (λ (west : List ℕ). is_west_length question (length west))
    (λ (west : List ℕ). weight question (length west)) (choices_of (missing question))

-- the total, over West's lengths
pub total_by_length : (question : Question)
    → total question
    ≡ sum_by (λ count. binomial (length (missing question)) count * weight_in_range question count)
    (range_with_len 0 (length (missing question) + 1))
total_by_length question = total_of_choices question ∙ choices_summed (weight_in_range question) (missing question)

-- without a range, the weights of all choices are all the ways to choose West's places
all_weights : (question : Question) → length (missing question) ≤ question.vacant_w + question.vacant_e
    → sum_by (λ west. weight question (length west)) (choices_of (missing question))
    ≡ binomial (question.vacant_w + question.vacant_e) question.vacant_w
all_weights question fits =
    let m = length (missing question) in
    let places : question.vacant_w + question.vacant_e - m + m ≡ question.vacant_w + question.vacant_e = omega arith in
    choices_filled (missing question) (question.vacant_w + question.vacant_e - m) question.vacant_w
    ∙ ap (λ (n : ℕ). binomial n question.vacant_w) places

in_range : (b : Bool) (n : ℕ) → (if b then n else 0) ≤ n
in_range true n = omega arith
in_range false n = omega arith

-- a range only leaves some out
total_le_all : (question : Question)
    → total question ≤ sum_by (λ west. weight question (length west)) (choices_of (missing question))
total_le_all question =
    omega (
      arith,
      total_of_choices question,
      sum_by-le-sum_by (λ (west : List ℕ). weight_in_range question (length west))
          (λ (west : List ℕ). weight question (length west)) (choices_of (missing question))
          (λ west. in_range (is_west_length question (length west)) (weight question (length west))),
    )

-- a length is within the range, or more than are missing
term_within : (question : Question) (count : ℕ) → question.west_least ≡ 0
    → length (missing question) ≤ question.west_most
    → binomial (length (missing question)) count * weight_in_range question count
    ≡ binomial (length (missing question)) count * weight question count
term_within question count least most = elim (cases_lt (length (missing question)) count) [
  | inl past ↦ let none : binomial (length (missing question)) count ≡ 0 =
      binomial_past (length (missing question)) count past in
      rw none (omega arith)
  | inr few ↦
      let low : nat_le question.west_least count ≡ true = le-leb question.west_least count (omega arith) in
      let high : nat_le count question.west_most ≡ true = le-leb count question.west_most (omega arith) in
      rw (low, high) refl
]

pub total_of_all : (question : Question) → length (missing question) ≤ question.vacant_w + question.vacant_e
    → question.west_least ≡ 0 → length (missing question) ≤ question.west_most
    → total question ≡ binomial (question.vacant_w + question.vacant_e) question.vacant_w
total_of_all question fits least most =
    let m = length (missing question) in
    total_by_length question
    ∙ sum_by_same (λ (count : ℕ). binomial m count * weight_in_range question count)
    (λ (count : ℕ). binomial m count * weight question count)
    (range_with_len 0 (m + 1)) (λ count. term_within question count least most)
    ∙ sym (choices_summed (weight question) (missing question))
    ∙ all_weights question fits

-- more places, and as many more chosen or left, leave no fewer ways
binomial-more_chosen : (n k more : ℕ) → binomial n k ≤ binomial (n + more) (k + more)
binomial-more_chosen n k zero =
    let same_n : n + 0 ≡ n = omega arith in
    let same_k : k + 0 ≡ k = omega arith in
    rw (same_n, same_k) (omega arith)
binomial-more_chosen n k (suc more) =
    let next_n : n + suc more ≡ suc (n + more) = omega arith in
    let next_k : k + suc more ≡ suc (k + more) = omega arith in
    rw (next_n, next_k) (omega (arith, binomial-more_chosen n k more, pascal (n + more) (k + more)))

binomial-next : (n k : ℕ) → binomial n k ≤ binomial (suc n) k
binomial-next n zero = omega (arith, binomial-none n, binomial-none (suc n))
binomial-next n (suc k) = omega (arith, pascal n k)

binomial-more_left : (n k more : ℕ) → binomial n k ≤ binomial (n + more) k
binomial-more_left n k zero = let same : n + 0 ≡ n = omega arith in rw same (omega arith)
binomial-more_left n k (suc more) =
    let next : n + suc more ≡ suc (n + more) = omega arith in
    rw next (omega (arith, binomial-more_left n k more, binomial-next (n + more) k))

most_ways : binomial 26 13 ≡ MOST_TOTAL
unfolding binomial binomial_row next_row
most_ways = refl

places_le : (a b : ℕ) → a ≤ HAND_SIZE → b ≤ HAND_SIZE → binomial (a + b) a ≤ MOST_TOTAL
places_le a b few_w few_e =
    let chosen : a + (13 - a) ≡ 13 = omega arith in
    let places : a + b + (13 - a) + (13 - b) ≡ 26 = omega arith in
    let first = rw chosen at (binomial-more_chosen (a + b) a (13 - a)) in
    let later = rw places at (binomial-more_left (a + b + (13 - a)) 13 (13 - b)) in
    omega (arith, first, later, most_ways)

pub total_at_most : (question : Question) → IsValid question → total question ≤ MOST_TOTAL
total_at_most question valid =
    omega (
      arith,
      total_le_all question,
      all_weights question valid.places,
      places_le question.vacant_w question.vacant_e valid.vacant_w valid.vacant_e,
    )

-- what the total is computed with: the places are few enough for 64 bits
pub weight-small : (question : Question) (count : ℕ) → HasPlaces question → weight_in_range question count ≤ 2 ^ 26
weight-small question count places =
    let others = question.vacant_w + question.vacant_e - length (missing question) in
    let fewer : others ≤ 26 = omega (arith, places.0, places.1) in
    let few : 2 ^ others ≤ 2 ^ 26 = pow-le-pow_right (omega arith) fewer in
    omega (
      arith,
      in_range (is_west_length question count) (weight question count),
      in_range (nat_le count question.vacant_w) (binomial others (question.vacant_w - count)),
      binomial-le others (question.vacant_w - count),
    )

-- what one length adds to the total
pub term-small : (question : Question) (cards count ways deals : ℕ) → cards ≤ HAND_SIZE → HasPlaces question
    → ways ≡ binomial cards count → deals ≡ weight_in_range question count → ways * deals ≤ 2 ^ 39
term-small question cards count ways deals few places is_ways is_deals =
    let most : 2 ^ cards ≤ 2 ^ 13 = pow-le-pow_right (omega arith) few in
    let low : ways ≤ 2 ^ 13 = omega (arith, binomial-le cards count) in
    let small : deals ≤ 2 ^ 26 = omega (arith, weight-small question count places) in
    let product : ways * deals ≤ 2 ^ 13 * 2 ^ 26 = mul-le-mul low small in
    omega arith

-- the sum with one length more
pub total_more : (question : Question) (cards count sum ways deals : ℕ)
    → sum ≡ sum_by (λ length. binomial cards length * weight_in_range question length) (range_with_len 0 count)
    → ways ≡ binomial cards count → deals ≡ weight_in_range question count
    → sum + ways * deals ≡ sum_by (λ length. binomial cards length * weight_in_range question length)
    (range_with_len 0 (count + 1))
total_more question cards count sum ways deals so_far is_ways is_deals =
    let next : count + 1 ≡ suc count = omega arith in
    let place : 0 + count ≡ count = omega arith in
    let more = rw place at (range_sum_more (λ (n : ℕ). binomial cards n * weight_in_range question n) 0 count) in
    rw (next, is_ways, is_deals) (omega (arith, so_far, more))

-- the sum over all lengths is the total
pub total_whole : (question : Question) (cards count sum : ℕ)
    → cards ≡ length (missing question) → count ≡ cards
    → sum ≡ sum_by (λ length. binomial cards length * weight_in_range question length) (range_with_len 0 (count + 1))
    → sum ≡ total question
total_whole question cards count sum is_cards is_count is_sum =
    let here : count ≡ length (missing question) = omega arith in
    is_sum ∙ rw (here, is_cards) (sym (total_by_length question))
