-- Sums over all choices of some cards.
use Rattle.std.proofs.Common.{◌≡◌, ℕ, zero, suc, ◌+◌, ◌*◌, Bool, false, cond, nat_eq, List, [], ◌∷◌, length, refl, sym}
use Rattle.std.proofs.Common.{ap, ◌∙◌, inl, inr, arith}
use Rattle.std.specs.Prelude.{◌==◌, map}
use Rattle.std.specs.List.{filter, sum_by, range_with_len}
use Rattle.std.proofs.lemmas.Bool.{cases_eq, eq-eqb, ne_eqb}
use Rattle.std.proofs.lemmas.List.Sums.{sum_by-append, sum_by-cons}
use Rattle.suit_num.specs.Binomials.{binomial}
use Rattle.suit_num.proofs.BinomialLaws.{pascal, binomial-none, binomial_past}
use Rattle.suit_game.specs.Layouts.{choices_of}
use Rattle.suit_lists.proofs.Sums.{length_filter, sum_by_map, sum_by_none, sum_by_same}

-- each choice has the first card or not
pub choices_split : (f : ℕ → ℕ) (card : ℕ) (cards : List ℕ)
    → sum_by (λ taken. f (length taken)) (choices_of (card ∷ cards))
    ≡ sum_by (λ taken. f (suc (length taken))) (choices_of cards)
    + sum_by (λ taken. f (length taken)) (choices_of cards)
unfolding choices_of
choices_split f card cards =
    let by_length : List ℕ → ℕ = λ taken. f (length taken) in
    omega (
      arith,
      sum_by-append by_length (map (λ (taken : List ℕ). card ∷ taken) (choices_of cards)) (choices_of cards),
      sum_by_map by_length (λ (taken : List ℕ). card ∷ taken) (choices_of cards),
    )

-- the sum over the numbers from a on, with one number more
pub range_sum_more : (f : ℕ → ℕ) (a n : ℕ)
    → sum_by f (range_with_len a (suc n)) ≡ sum_by f (range_with_len a n) + f (a + n)
range_sum_more f a zero = let place : a + 0 ≡ a = omega arith in rw place (omega arith)
range_sum_more f a (suc n) =
    let place : a + 1 + n ≡ a + suc n = omega arith in
    omega (
      arith,
      sum_by-cons f a (range_with_len (a + 1) (suc n)),
      sum_by-cons f a (range_with_len (a + 1) n),
      range_sum_more f (a + 1) n,
      ap f place,
    )

-- Pascal's law, in a sum
pascal_sum : (m : ℕ) (f : ℕ → ℕ) (n : ℕ)
    → sum_by (λ count. binomial (suc m) count * f count) (range_with_len 0 (suc n))
    ≡ sum_by (λ count. binomial m count * f (suc count)) (range_with_len 0 n)
    + sum_by (λ count. binomial m count * f count) (range_with_len 0 (suc n))
pascal_sum m f zero =
    let above : binomial (suc m) 0 ≡ 1 = binomial-none (suc m) in
    let below : binomial m 0 ≡ 1 = binomial-none m in
    rw (above, below) (omega arith)
pascal_sum m f (suc n) =
    let place : 0 + suc n ≡ suc n = omega arith in
    let lower : 0 + n ≡ n = omega arith in
    let above = range_sum_more (λ count. binomial (suc m) count * f count) 0 (suc n) in
    let first = range_sum_more (λ count. binomial m count * f (suc count)) 0 n in
    let later = range_sum_more (λ count. binomial m count * f count) 0 (suc n) in
    let terms : binomial (suc m) (suc n) * f (suc n) ≡ binomial m n * f (suc n) + binomial m (suc n) * f (suc n) =
    rw (pascal m n) (omega arith) in
    omega (arith, rw place at above, rw lower at first, rw place at later, terms, pascal_sum m f n)

pub choices_summed : (f : ℕ → ℕ) (cards : List ℕ)
    → sum_by (λ taken. f (length taken)) (choices_of cards)
    ≡ sum_by (λ count. binomial (length cards) count * f count) (range_with_len 0 (length cards + 1))
unfolding choices_of
choices_summed f [] = let one : binomial 0 0 ≡ 1 = binomial-none 0 in rw one (omega arith)
choices_summed f (card ∷ cards) =
    let m = length cards in
    let next : m + 1 ≡ suc m = omega arith in
    let after : suc m + 1 ≡ suc (suc m) = omega arith in
    let place : 0 + suc m ≡ suc m = omega arith in
    let past : binomial m (suc m) ≡ 0 = binomial_past m (suc m) (omega arith) in
    let more = rw (place, past) at (range_sum_more (λ count. binomial m count * f count) 0 (suc m)) in
    let taken = rw next at (choices_summed (λ (count : ℕ). f (suc count)) cards) in
    let left = rw next at (choices_summed f cards) in
    rw after (omega (arith, choices_split f card cards, taken, left, more, pascal_sum m f (suc m)))

same_after : (m n : ℕ) → nat_eq (suc m) (suc n) ≡ nat_eq m n
same_after m n = elim (cases_eq m n) [
  | inl same ↦ eq-eqb (suc m) (suc n) (omega arith) ∙ sym (eq-eqb m n same)
  | inr other ↦ ne_eqb (suc m) (suc n) (λ e. other (omega arith)) ∙ sym (ne_eqb m n other)
]

count_sum : (cards : List ℕ) (count : ℕ)
    → sum_by (λ taken. cond (length taken == count) 1 0) (choices_of cards) ≡ binomial (length cards) count
unfolding choices_of
count_sum [] zero = sym (binomial-none 0)
count_sum [] (suc count) =
    let other : nat_eq 0 (suc count) ≡ false = ne_eqb 0 (suc count) (λ e. omega arith) in
    let none : binomial 0 (suc count) ≡ 0 = binomial_past 0 (suc count) (omega arith) in
    rw (other, none) refl
count_sum (card ∷ cards) zero =
    omega (
      arith,
      choices_split (λ (n : ℕ). cond (n == 0) 1 0) card cards,
      count_sum cards zero,
      binomial-none (length cards),
      binomial-none (suc (length cards)),
      sum_by_none (λ (taken : List ℕ). cond (suc (length taken) == 0) 1 0) (choices_of cards)
          (λ taken. ap (λ (b : Bool). cond b 1 0) (ne_eqb (suc (length taken)) 0 (λ e. omega arith))),
    )
count_sum (card ∷ cards) (suc count) =
    omega (
      arith,
      choices_split (λ (n : ℕ). cond (n == suc count) 1 0) card cards,
      count_sum cards count,
      count_sum cards (suc count),
      pascal (length cards) count,
      sum_by_same (λ (taken : List ℕ). cond (suc (length taken) == suc count) 1 0)
          (λ (taken : List ℕ). cond (length taken == count) 1 0) (choices_of cards)
          (λ taken. ap (λ (b : Bool). cond b 1 0) (same_after (length taken) count)),
    )

pub choices_counted : (cards : List ℕ) (count : ℕ)
    → length (filter (λ taken. length taken == count) (choices_of cards)) ≡ binomial (length cards) count
choices_counted cards count = length_filter (λ (taken : List ℕ). length taken == count) (choices_of cards)
    ∙ count_sum cards count
