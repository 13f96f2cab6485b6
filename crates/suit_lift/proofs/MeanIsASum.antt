-- A mean as a sum of the shares of what is chosen (picked_mean, shares_mean).
use Rattle.std.proofs.Common.{◌≡◌, ℕ, zero, suc, ◌+◌, ◌*◌, ◌<◌, List, [], ◌∷◌, refl, sym, ap, ◌∙◌, subst, arith}
use Rattle.std.specs.List.{AllByRecursion, sum_by}
use Rattle.std.proofs.Math.Nat.{mul-pos}
use Rattle.std.proofs.lemmas.List.Sums.{sum_by-cons}
use Rattle.suit_lists.proofs.Maps.{each_map}
use Rattle.suit_game.specs.declared.moves.Move.{Move}
use Rattle.suit_game.specs.Fractions.{Fraction, mean, total_weight, weighted_sum, whole}
use Rattle.suit_game.specs.Strategies.{Weighed, chosen, kept, weighed}
use Rattle.suit_game.proofs.MeansLieBetween.{weighted_sum-den}
use Rattle.suit_lift.proofs.FractionSums.{IsNoMore, no_more_itself, no_more_same, no_more_then, parts_of, plus}
use Rattle.suit_lift.proofs.FractionSums.{plus_no_more, plus_nothing, sum_of, times}
use Rattle.suit_lift.proofs.MeanOfShares.{chosen_weighed, valued, weighed_weight}

-- what is chosen weighs the sum of its weights
pub picked_weight : (value : Move → Fraction) (choices : List Weighed) → total_weight (valued value choices)
    ≡ sum_by (λ choice. choice.0) choices
unfolding total_weight
picked_weight value [] = refl
picked_weight value (choice ∷ choices) =
    let weight : Weighed → ℕ = λ other. other.0 in
    ap (λ (n : ℕ). choice.0 + n) (picked_weight value choices) ∙ sym (sum_by-cons weight choice choices)

one_picked : (w vn vd num den all : ℕ) → (w * vn * den + num * vd) * (all * vd * (all * den)) ≡ (w * vn * (all
    * den) + num * (all * vd)) * (all * (vd * den))
one_picked w vn vd num den all = omega arith

picked_sum : (value : Move → Fraction) (all : ℕ) (choices : List Weighed) → 0 < all
    → AllByRecursion (λ choice. 0 < (value choice.1).den) choices
    → IsNoMore (parts_of (weighted_sum (valued value choices)).num (all
    * (weighted_sum (valued value choices)).den)) (sum_of (λ choice. times (parts_of choice.0 all)
    (value choice.1)) choices)
unfolding weighted_sum sum_of
picked_sum value all [] some each =
    record { here_some = mul-pos some (omega arith); there_some = omega arith; least = omega arith }
picked_sum value all (choice ∷ choices) some each =
    let first : Fraction = times (parts_of choice.0 all) (value choice.1) in
    let rest : Fraction = parts_of (weighted_sum (valued value choices)).num (all
    * (weighted_sum (valued value choices)).den) in
    let later = picked_sum value all choices some each.1 in
    let den : 0 < (weighted_sum (valued value choices)).den =
    weighted_sum-den (valued value choices) (each_map (λ item. 0 < item.1.den) (λ (c : Weighed).
    (c.0, value c.1)) choices each.1) in
    no_more_then (parts_of (weighted_sum (valued value (choice ∷ choices))).num (all
    * (weighted_sum (valued value (choice ∷ choices))).den)) (plus first rest)
    (plus first (sum_of (λ c. times (parts_of c.0 all) (value c.1)) choices))
    (no_more_same (parts_of (weighted_sum (valued value (choice ∷ choices))).num (all
    * (weighted_sum (valued value (choice ∷ choices))).den)) (plus first rest)
    (mul-pos some (mul-pos each.0 den)) (mul-pos (mul-pos some each.0) (mul-pos some den))
    (one_picked choice.0 (value choice.1).num (value choice.1).den (weighted_sum (valued value choices)).num
    (weighted_sum (valued value choices)).den all))
    (plus_no_more first first rest (sum_of (λ c. times (parts_of c.0 all) (value c.1)) choices)
    (no_more_itself first (mul-pos some each.0)) later)

-- the mean of what is chosen is no more than the sum of its shares
pub picked_mean : (value : Move → Fraction) (choices : List Weighed)
    → 0 < sum_by (λ (choice : Weighed). choice.0) choices → AllByRecursion (λ choice. 0 < (value choice.1).den) choices
    → IsNoMore (mean (valued value choices)) (sum_of (λ choice. times (parts_of choice.0 (sum_by (λ
    (other : Weighed). other.0) choices)) (value choice.1)) choices)
picked_mean value choices some each =
    subst (λ (n : ℕ). IsNoMore (parts_of (weighted_sum (valued value choices)).num (n
    * (weighted_sum (valued value choices)).den))
    (sum_of (λ choice. times (parts_of choice.0 (sum_by (λ (other : Weighed). other.0) choices))
    (value choice.1)) choices)) (sym (picked_weight value choices))
    (picked_sum value (sum_by (λ (other : Weighed). other.0) choices) choices some each)

kept_shares : (value : Move → Fraction) (all n : ℕ) (move : Move) (more : List Weighed) (sum : Fraction) → 0 < all
    → 0 < (value move).den
    → IsNoMore (sum_of (λ choice. times (parts_of choice.0 all) (value choice.1)) more) sum
    → IsNoMore (sum_of (λ choice. times (parts_of choice.0 all) (value choice.1)) (kept n move more)) (plus (times
    (parts_of n all) (value move)) sum)
unfolding sum_of
kept_shares value all zero move more sum some den rest =
    plus_nothing (sum_of (λ choice. times (parts_of choice.0 all) (value choice.1)) more) (times (parts_of 0 all)
    (value move)) sum (omega arith) (mul-pos some den) rest
kept_shares value all (suc n) move more sum some den rest =
    plus_no_more (times (parts_of (suc n) all) (value move)) (times (parts_of (suc n) all) (value move))
    (sum_of (λ choice. times (parts_of choice.0 all) (value choice.1)) more) sum (no_more_itself (times (parts_of
    (suc n) all) (value move)) (mul-pos some den)) rest

weighed_shares : (weight_of : Move → ℕ) (value : Move → Fraction) (all : ℕ) (moves : List Move) → 0 < all
    → AllByRecursion (λ move. 0 < (value move).den) moves
    → IsNoMore (sum_of (λ choice. times (parts_of choice.0 all) (value choice.1)) (weighed weight_of moves)) (sum_of
    (λ move. times (parts_of (weight_of move) all) (value move)) moves)
unfolding weighed sum_of
weighed_shares weight_of value all [] some each = no_more_itself (whole 0) (omega arith)
weighed_shares weight_of value all (move ∷ moves) some each =
    kept_shares value all (weight_of move) move (weighed weight_of moves) (sum_of (λ other. times (parts_of
    (weight_of other) all) (value other)) moves) some each.0
    (weighed_shares weight_of value all moves some each.1)

kept_dens : (value : Move → Fraction) (n : ℕ) (move : Move) (more : List Weighed) → 0 < (value move).den
    → AllByRecursion (λ choice. 0 < (value choice.1).den) more
    → AllByRecursion (λ choice. 0 < (value choice.1).den) (kept n move more)
kept_dens value zero move more den rest = rest
kept_dens value (suc n) move more den rest = (den, rest)

weighed_dens : (weight_of : Move → ℕ) (value : Move → Fraction) (moves : List Move)
    → AllByRecursion (λ move. 0 < (value move).den) moves
    → AllByRecursion (λ choice. 0 < (value choice.1).den) (weighed weight_of moves)
unfolding weighed
weighed_dens weight_of value [] each = tt
weighed_dens weight_of value (move ∷ moves) each =
    kept_dens value (weight_of move) move (weighed weight_of moves) each.0 (weighed_dens weight_of value moves each.1)

-- where some move has weight, it is no more than the sum of the shares of all moves
pub shares_mean : (weight_of : Move → ℕ) (value : Move → Fraction) (moves : List Move) → 0 < sum_by weight_of moves
    → AllByRecursion (λ move. 0 < (value move).den) moves
    → IsNoMore (mean (valued value (chosen weight_of moves))) (sum_of (λ move. times (parts_of (weight_of move)
    (sum_by weight_of moves)) (value move)) moves)
shares_mean weight_of value moves some each =
    let all : ℕ = sum_by weight_of moves in
    let choices : List Weighed = weighed weight_of moves in
    let sum : Fraction = sum_of (λ move. times (parts_of (weight_of move) all) (value move)) moves in
    subst (λ (cs : List Weighed). IsNoMore (mean (valued value cs)) sum) (sym
    (chosen_weighed value weight_of moves some))
    (subst (λ (n : ℕ). IsNoMore (parts_of (weighted_sum (valued value choices)).num (n
    * (weighted_sum (valued value choices)).den)) sum) (sym (weighed_weight value weight_of moves))
    (no_more_then (parts_of (weighted_sum (valued value choices)).num (all
    * (weighted_sum (valued value choices)).den)) (sum_of (λ choice. times (parts_of choice.0 all)
    (value choice.1)) choices) sum
    (picked_sum value all choices some (weighed_dens weight_of value moves each))
    (weighed_shares weight_of value all moves some each)))
