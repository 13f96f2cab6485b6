-- What lies between nothing and thirteen tricks of a mass: a payoff for it (`product_paid`), a sum, the best of some.
use Rattle.std.proofs.Common.{◌≡◌, ℕ, ◌≤◌, Bool, true, false, List, [], ◌∷◌, map, sym, ap, ◌∙◌, subst, arith}
use Rattle.std.specs.Prelude.{Contains, nat_le, if◌then◌else◌, ℤ, pos, ◌+ℤ◌, ◌*ℤ◌, ◌≤ℤ◌}
use Rattle.std.proofs.lemmas.Int.{ints}
use Rattle.suit_lists.proofs.Elements.{Contains-first, Contains-later}
use Rattle.suit_lists.proofs.Maps.{Contains-map_from}
use Rattle.suit_cards.specs.Cards.{ClassLayout}
use Rattle.suit_num.proofs.IntegerLaws.{le-mul_right, mul-add_left, mul_not_negative}
use Rattle.suit_game.specs.declared.question.Question.{Question}
use Rattle.suit_game.specs.declared.question.Goal.{Goal}
use Rattle.suit_game.specs.declared.question.Goal.TheVariants.{AtLeast, Tricks}
use Rattle.suit_game.specs.Positions.{after, payoff}
use Rattle.suit_game.proofs.EachPlaceIsReached.{thirteen_tricks}
use Rattle.suit_classes.specs.declared.class_moves.ClassMove.{ClassMove}
use Rattle.suit_classes.specs.ClassGame.{Allows}
use Rattle.suit_classes.specs.ClassPlaces.{class_after, class_payoff}
use Rattle.suit_classes.proofs.ClassGameAgrees.{class_game_agrees}
use Rattle.suit_classes.proofs.ClassPlaceFollowsPlay.{play_dealt}
use Rattle.suit_plans.specs.Properness.{sum_of}
use Rattle.suit_plans.specs.ReplyLaws.{IsPaid}
use Rattle.suit_game.specs.declared.limits.TheConstants.{HAND_SIZE}
use Rattle.suit_classes.specs.ClassMoves.{ClassHistory}

payoff_most : (goal : Goal) (won : ℕ) → won ≤ HAND_SIZE → payoff goal won ≤ HAND_SIZE
payoff_most (AtLeast least) won few = one (nat_le least won)
  where
    one : (b : Bool) → (if b then 1 else 0) ≤ HAND_SIZE
    one true = omega arith
    one false = omega arith
payoff_most Tricks won few = few

-- no class history pays more than thirteen tricks
pub paid_most : (question : Question) (counts : ClassLayout) (history : ClassHistory) → Allows question counts history
    → class_payoff (class_after question history) ≤ HAND_SIZE
paid_most question counts history allows =
    let deal = (play_dealt question allows.west allows.cards allows.play).deal in
    let won : (after question allows.cards).won ≤ HAND_SIZE =
    thirteen_tricks question allows.west allows.cards deal allows.play.legal in
    subst (λ (n : ℕ). n ≤ HAND_SIZE)
    (sym (class_game_agrees question allows.west allows.cards allows.play).payoff
    ∙ ap (λ (h : ClassHistory). class_payoff (class_after question h)) allows.merges)
    (payoff_most question.goal (after question allows.cards).won won)

-- a payoff of at most thirteen tricks for a mass
pub product_paid : (payoff : ℕ) (mass : ℤ) → payoff ≤ HAND_SIZE → pos 0 ≤ℤ mass → IsPaid mass (pos payoff *ℤ mass)
product_paid payoff mass few positive =
    let some : pos 0 ≤ℤ pos payoff = omega (arith, ints) in
    let most : pos payoff ≤ℤ pos HAND_SIZE = omega (arith, ints) in
    record {
      some = mul_not_negative (pos payoff) mass some positive;
      few = le-mul_right (pos payoff) (pos HAND_SIZE) mass most positive;
    }

summed : (a b c d : ℤ) → a ≤ℤ c → b ≤ℤ d → (a +ℤ b) ≤ℤ (c +ℤ d)
summed a b c d p q = omega (arith, ints)

-- where each number lies within its bounds so does their sum
pub sum_paid : {X : Type 0} (worths masses : X → ℤ) (xs : List X)
    → ((x : X) → Contains xs x → IsPaid (masses x) (worths x))
    → IsPaid (sum_of (map masses xs)) (sum_of (map worths xs))
unfolding sum_of
sum_paid worths masses [] paid = record { some = omega (arith, ints); few = omega (arith, ints) }
sum_paid {X} worths masses (x ∷ xs) paid =
    let first = paid x (Contains-first x xs) in
    let later = sum_paid worths masses xs (λ y found. paid y (Contains-later x xs y found)) in
    let all : pos HAND_SIZE *ℤ (masses x +ℤ sum_of (map masses xs))
    ≡ pos HAND_SIZE *ℤ masses x +ℤ pos HAND_SIZE *ℤ sum_of (map masses xs) =
    mul-add_left (pos HAND_SIZE) (masses x) (sum_of (map masses xs)) in
    record {
      some = omega (arith, ints, first.some, later.some);
      few = subst (λ (z : ℤ). (worths x +ℤ sum_of (map worths xs)) ≤ℤ z) (sym all)
          (summed (worths x) (sum_of (map worths xs)) (pos HAND_SIZE *ℤ masses x)
          (pos HAND_SIZE *ℤ sum_of (map masses xs)) first.few
          later.few);
    }

-- a number that is one of some within the bounds is within them
pub one_paid : (mass : ℤ) (worths : ClassMove → ℤ) (moves : List ClassMove) (number : ℤ)
    → Contains (map worths moves) number
    → ((move : ClassMove) → Contains moves move → IsPaid mass (worths move)) → IsPaid mass number
one_paid mass worths moves number found paid =
    let from = Contains-map_from worths moves number found in
    subst (IsPaid mass) from.2 (paid from.0 from.1)

-- nothing is paid for no mass
pub none_paid : (mass worth : ℤ) → IsPaid mass worth → mass ≡ pos 0 → worth ≡ pos 0
none_paid mass worth paid none = omega (arith, ints, paid.some, paid.few, none)
