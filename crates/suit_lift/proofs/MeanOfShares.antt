-- The mean of what a side plays, where each move is worth its share of a bound (shared_mean).
use Rattle.std.proofs.Common.{◌≡◌, ℕ, zero, suc, ◌+◌, ◌*◌, ◌≤◌, ◌<◌, List, [], ◌∷◌, map, refl, sym, ap, ◌∙◌, arith}
use Rattle.std.specs.List.{AllByRecursion, sum_by}
use Rattle.std.proofs.Math.Nat.{mul-le-mul_left, mul-pos}
use Rattle.std.proofs.lemmas.List.Sums.{sum_by-cons}
use Rattle.suit_game.specs.declared.moves.Move.{Move}
use Rattle.suit_game.specs.Fractions.{Fraction, IsAtLeast, mean, total_weight, weighted_sum}
use Rattle.suit_game.specs.Strategies.{Weighed, chosen, kept, or_first, weighed}

-- a value that is at least bound / mass, where the mass is at most the weight's share of the whole
pub record IsShared (value : Fraction) (bound mass weight all whole : ℕ) : Type 0 where
  pub some : 0 < value.den
  pub least : IsAtLeast value bound mass
  pub shared : mass * all ≤ weight * whole

-- what is chosen, with its values
abbrev pub valued : (Move → Fraction) → List Weighed → List (ℕ × Fraction)
valued value choices = map (λ (choice : Weighed). (choice.0, value choice.1)) choices

no_bound : (mass all bound num den : ℕ) → 0 < all → 0 < den → mass * all ≤ 0 → bound * den ≤ num * mass → bound ≡ 0
no_bound mass all zero num den some above none least = refl
no_bound zero all (suc bound) num den some above none least =
    absurd (omega (arith, mul-pos {m = suc bound} (omega arith) above))
no_bound (suc mass) all (suc bound) num den some above none least =
    absurd (omega (arith, mul-pos {m = suc mass} (omega arith) some))

kept_step : (b fn fd mass n all whole sum d num : ℕ) → b * fd ≤ fn * mass → mass * all ≤ n * whole → sum * d
    * all ≤ num * whole
    → (b + sum) * (fd * d) * all ≤ (n * fn * d + num * fd) * whole
kept_step b fn fd mass n all whole sum d num least shared rest =
    omega (
      arith,
      mul-le-mul_left (d * all) least,
      mul-le-mul_left (fn * d) shared,
      mul-le-mul_left fd rest,
    )

weighed_step : (value : Move → Fraction) (move : Move) (n bound mass all whole sum : ℕ) (more : List Weighed) → 0 < all
    → IsShared (value move) bound mass n all whole
    → sum * (weighted_sum (valued value more)).den * all ≤ (weighted_sum (valued value more)).num * whole
    → (bound + sum) * (weighted_sum (valued value (kept n move more))).den
    * all ≤ (weighted_sum (valued value (kept n move more))).num * whole
unfolding weighted_sum
weighed_step value move zero bound mass all whole sum more some shared rest =
    let none : bound ≡ 0 = no_bound mass all bound (value move).num (value move).den some shared.some (omega
    (arith, shared.shared)) shared.least in
    rw none (omega (arith, rest))
weighed_step value move (suc n) bound mass all whole sum more some shared rest =
    kept_step bound (value move).num (value move).den mass (suc n) all whole sum (weighted_sum
    (valued value more)).den (weighted_sum (valued value more)).num
    shared.least shared.shared rest

weighed_least : (weight_of : Move → ℕ) (value : Move → Fraction) (bound mass : Move
    → ℕ) (all whole : ℕ) (moves : List Move) → 0 < all
    → AllByRecursion (λ move. IsShared (value move) (bound move) (mass move) (weight_of move) all whole) moves
    → sum_by bound moves * (weighted_sum (valued value (weighed weight_of moves))).den
    * all ≤ (weighted_sum (valued value (weighed weight_of moves))).num * whole
unfolding weighed weighted_sum
weighed_least weight_of value bound mass all whole [] some each = omega arith
weighed_least weight_of value bound mass all whole (move ∷ moves) some each =
    rw (sum_by-cons bound move moves)
    (weighed_step value move (weight_of move) (bound move) (mass move) all whole (sum_by bound moves)
    (weighed weight_of moves) some each.0
    (weighed_least weight_of value bound mass all whole moves some each.1))

kept_weight : (value : Move → Fraction) (n : ℕ) (move : Move) (more : List Weighed)
    → total_weight (valued value (kept n move more)) ≡ n + total_weight (valued value more)
unfolding total_weight
kept_weight value zero move more = omega arith
kept_weight value (suc n) move more = refl

-- the moves with weight weigh what all weigh
pub weighed_weight : (value : Move → Fraction) (weight_of : Move → ℕ) (moves : List Move)
    → total_weight (valued value (weighed weight_of moves)) ≡ sum_by weight_of moves
unfolding weighed total_weight
weighed_weight value weight_of [] = refl
weighed_weight value weight_of (move ∷ moves) =
    kept_weight value (weight_of move) move (weighed weight_of moves)
    ∙ ap (λ (n : ℕ). weight_of move + n) (weighed_weight value weight_of moves) ∙ sym (sum_by-cons weight_of move moves)

weighed_some : (value : Move → Fraction) (choices : List Weighed) (moves : List Move)
    → 0 < total_weight (valued value choices) → or_first choices moves ≡ choices
unfolding total_weight
weighed_some value [] moves some = absurd (omega arith)
weighed_some value (choice ∷ choices) moves some = refl

-- where a move has weight, just those are chosen that have
pub chosen_weighed : (value : Move → Fraction) (weight_of : Move → ℕ) (moves : List Move) → 0 < sum_by weight_of moves
    → chosen weight_of moves ≡ weighed weight_of moves
chosen_weighed value weight_of moves some =
    weighed_some value (weighed weight_of moves) moves (omega (arith, some, weighed_weight value weight_of moves))

-- the mean is at least the sum of the bounds, divided by the whole
pub shared_mean : (weight_of : Move → ℕ) (value : Move → Fraction) (bound mass : Move
    → ℕ) (whole : ℕ) (moves : List Move) → 0 < sum_by weight_of moves
    → AllByRecursion (λ move. IsShared (value move) (bound move) (mass move) (weight_of move)
    (sum_by weight_of moves) whole) moves
    → IsAtLeast (mean (valued value (chosen weight_of moves))) (sum_by bound moves) whole
shared_mean weight_of value bound mass whole moves some each =
    rw (chosen_weighed value weight_of moves some, weighed_weight value weight_of moves)
    (omega (arith, weighed_least weight_of value bound mass (sum_by weight_of moves) whole moves some each))
