-- The lift of a proper plan earns at least the plan's least (plans_earn).
use Rattle.std.proofs.Common.{◌≡◌, ℕ, ◌+◌, ◌*◌, ◌≤◌, ◌<◌, true, List, [], ◌∷◌, length, map, sym, ap, ◌∙◌, subst}
use Rattle.std.proofs.Common.{arith}
use Rattle.std.specs.Prelude.{Contains, ℤ, pos, negsuc, ◌*ℤ◌, ◌≤ℤ◌, int_le}
use Rattle.std.specs.List.{AllByRecursion, sum_by}
use Rattle.std.proofs.Math.Nat.{mul-le-mul_left, mul-pos}
use Rattle.std.proofs.lemmas.Int.{ints}
use Rattle.std.proofs.lemmas.List.Sums.{sum_by-cons}
use Rattle.suit_lists.proofs.Elements.{each_in, each_of}
use Rattle.suit_lists.proofs.Sums.{sum_by_alike, sum_by_same}
use Rattle.suit_num.proofs.IntegerLaws.{mul_not_negative, int_le-true}
use Rattle.suit_cards.specs.Cards.{Cards, ClassLayout}
use Rattle.suit_game.specs.declared.question.Question.{Question}
use Rattle.suit_game.specs.Blocks.{counts_of as block_counts}
use Rattle.suit_game.specs.Fractions.{Fraction, IsAtLeast, weighted_sum}
use Rattle.suit_game.specs.Gains.{gain, pay}
use Rattle.suit_game.specs.Layouts.{layouts, total, weight}
use Rattle.suit_game.specs.Strategies.{DefenceWay, counted}
use Rattle.suit_game.specs.Validity.{IsValid}
use Rattle.suit_game.proofs.LayoutCards.{layouts_are_deals}
use Rattle.suit_game.proofs.PayDenominators.{gain-den, total_weight-gain}
use Rattle.suit_game.proofs.PlaceSeenAfterAMove.{play_none}
use Rattle.suit_classes.specs.Classes.{hands_of, sizes_of}
use Rattle.suit_classes.specs.ClassGame.{counts_of}
use Rattle.suit_classes.proofs.CountsAllowAsTold.{counts_alike}
use Rattle.suit_classes.proofs.DefenceSizes.{sum-defence_sizes}
use Rattle.suit_layouts.specs.ClassLayouts.{class_layouts}
use Rattle.suit_layouts.proofs.ClassWeights.{layouts_grouped}
use Rattle.suit_plans.specs.BestReplies.{least, reply_to_plan, worth}
use Rattle.suit_plans.specs.declared.plan.Plan.{Plan}
use Rattle.suit_plans.specs.Properness.{IsProperPlan}
use Rattle.suit_plans.proofs.ProperPlans.{proper_plan}
use Rattle.suit_plans.proofs.RepliesAreBounded.{first_mass}
use Rattle.suit_lift.specs.LiftLaws.{PlansEarn}
use Rattle.suit_lift.specs.Lifts.{plan_way}
use Rattle.suit_lift.proofs.LiftPaysItsWorth.{plans_pay}
use Rattle.suit_lift.proofs.WorthsAreNotNegative.{number_positive, worth_positive}
use Rattle.suit_lift.proofs.SharesAreMasses.{counted_mul, counted_total, total_positive}

least_step : (w b fn fd mass sum d num : ℕ) → b * fd ≤ fn * mass → sum * d ≤ num * mass → (w * b + sum) * (fd
    * d) ≤ (w * fn * d + num * fd) * mass
least_step w b fn fd mass sum d num here rest = omega (arith, mul-le-mul_left (w * d) here, mul-le-mul_left fd rest)

-- a sum of weighted fractions is at least that of their weighted bounds
pub weighted_least : {X : Type 0} (weight_of : X → ℕ) (value : X → Fraction) (bound : X → ℕ) (mass : ℕ) (xs : List X)
    → AllByRecursion (λ x. IsAtLeast (value x) (bound x) mass) xs
    → IsAtLeast (weighted_sum (map (λ x. (weight_of x, value x)) xs)) (sum_by (λ x. weight_of x * bound x) xs) mass
unfolding weighted_sum
weighted_least weight_of value bound mass [] each = omega arith
weighted_least {X} weight_of value bound mass (x ∷ xs) each =
    let term : X → ℕ = λ y. weight_of y * bound y in
    rw (sum_by-cons term x xs)
    (least_step (weight_of x) (bound x) (value x).num (value x).den mass (sum_by term xs)
    (weighted_sum (map (λ y. (weight_of y, value y)) xs)).den (weighted_sum (map (λ y.
    (weight_of y, value y)) xs)).num each.0
    (weighted_least weight_of value bound mass xs each.1))

-- what depends on West's counts alone is summed over the layouts by class layouts
pub grouped_by_classes : (question : Question) (worth_of : ClassLayout → ℕ) → IsValid question
    → sum_by (λ west. weight question (length west) * worth_of (counts_of (hands_of question) west)) (layouts question)
    ≡ sum_by (λ layout. layout.1 * worth_of layout.0) (class_layouts question (sizes_of question))
grouped_by_classes question worth_of valid =
    sum_by_alike (λ west. weight question (length west) * worth_of (counts_of (hands_of question) west))
    (λ west. weight question (length west) * worth_of (block_counts question (sizes_of question) west))
    (layouts question)
    (each_in (λ west. weight question (length west) * worth_of (counts_of (hands_of question) west)
    ≡ weight question (length west) * worth_of (block_counts question (sizes_of question) west)) (layouts question)
    (λ west found. ap (λ (counts : ClassLayout). weight question (length west) * worth_of counts)
    (sym (counts_alike question west (layouts_are_deals question west valid.north valid.south valid.apart found).1))))
    ∙ layouts_grouped worth_of question (sizes_of question) (sum-defence_sizes (hands_of question))

pub den_some : (den : ℤ) → int_le (pos 1) den ≡ true → 0 < counted den
den_some (pos n) told = omega (arith, ints, int_le-true (pos 1) (pos n) told)
den_some (negsuc n) told = absurd (omega (arith, ints, int_le-true (pos 1) (negsuc n) told))

module _ (question : Question) (plan : Plan) (valid : IsValid question) (proper : IsProperPlan question plan) where
  worth_of : List ℕ × ℕ → ℤ
  worth_of layout = pos layout.1 *ℤ worth (reply_to_plan question plan layout.0) []

  worths_positive : AllByRecursion (λ layout. pos 0 ≤ℤ worth_of layout) (class_layouts question (sizes_of question))
  unfolding worth_of
  worths_positive =
      each_of (λ layout. pos 0 ≤ℤ worth_of layout) (class_layouts question (sizes_of question))
      (λ layout. mul_not_negative (pos layout.1) (worth (reply_to_plan question plan layout.0) [])
      (number_positive layout.1)
      (worth_positive question plan layout.0 proper []))

  least_counted : counted (least question plan)
      ≡ sum_by (λ west. weight question (length west)
      * counted (worth (reply_to_plan question plan (counts_of (hands_of question) west)) [])) (layouts question)
  unfolding least worth_of
  least_counted =
      counted_total worth_of (class_layouts question (sizes_of question)) worths_positive
      ∙ sum_by_same (λ layout. counted (worth_of layout)) (λ layout. layout.1
      * counted (worth (reply_to_plan question plan layout.0) [])) (class_layouts question (sizes_of question))
      (λ layout. counted_mul layout.1 (worth (reply_to_plan question plan layout.0) []))
      ∙ sym (grouped_by_classes question (λ counts. counted (worth (reply_to_plan question plan counts) [])) valid)

  least_not_negative : pos 0 ≤ℤ least question plan
  unfolding least worth_of
  least_not_negative = total_positive worth_of (class_layouts question (sizes_of question)) worths_positive

  each_layout : (defence : DefenceWay) (west : Cards) → Contains (layouts question) west
      → IsAtLeast (pay question (plan_way question plan) defence west []) (counted (worth
      (reply_to_plan question plan (counts_of (hands_of question) west)) [])) (counted plan.den)
  each_layout defence west found =
      subst (λ (mass : ℤ). IsAtLeast (pay question (plan_way question plan) defence west [])
      (counted (worth (reply_to_plan question plan (counts_of (hands_of question) west)) [])) (counted mass))
      (first_mass question plan)
      (plans_pay question plan defence west [] proper (play_none question west valid found))

  gain_least : (defence : DefenceWay) → IsAtLeast (gain question (plan_way question plan) defence) (counted
      (least question plan)) (counted plan.den * total question)
  gain_least defence =
      let value : Cards → Fraction = λ west. pay question (plan_way question plan) defence west [] in
      let bound : Cards → ℕ = λ west. counted (worth (reply_to_plan question plan (counts_of
      (hands_of question) west)) []) in
      let summed = weighted_least (λ west. weight question (length west)) value bound (counted plan.den)
      (layouts question)
      (each_in (λ west. IsAtLeast (value west) (bound west) (counted plan.den)) (layouts question)
      (each_layout defence)) in
      rw (least_counted, total_weight-gain question value) (omega (arith, mul-le-mul_left (total question) summed))

pub plans_earn : PlansEarn
plans_earn question plan defence valid proper = record {
  bound = gain_least question plan valid proper defence;
  not_negative = least_not_negative question plan valid proper;
  some = gain-den question (plan_way question plan) defence valid.has_weight;
  weighs = mul-pos (den_some plan.den (proper_plan question plan proper).0) valid.has_weight;
}
