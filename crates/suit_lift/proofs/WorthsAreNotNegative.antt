-- No play of a proper plan is worth less than 0 (worth_positive), and no reply to a proper defence is (most_positive).
use Rattle.std.proofs.Common.{ℕ, zero, suc, ◌-◌, List, [], ◌∷◌, ◌++◌, length, map, arith}
use Rattle.std.specs.Prelude.{ℤ, pos, ◌*ℤ◌, ◌≤ℤ◌}
use Rattle.std.specs.Int.{int_max, int_min}
use Rattle.std.specs.List.{AllByRecursion}
use Rattle.std.proofs.lemmas.Int.{clamps, ints}
use Rattle.suit_lists.proofs.Elements.{each_of}
use Rattle.suit_lists.proofs.Maps.{each_map}
use Rattle.suit_num.proofs.IntegerLaws.{mul_not_negative}
use Rattle.suit_cards.specs.Cards.{ClassLayout}
use Rattle.suit_game.specs.declared.question.Question.{Question}
use Rattle.suit_game.specs.declared.limits.TheConstants.{MOST_MOVES}
use Rattle.suit_classes.specs.ClassPlaces.{class_after, class_payoff}
use Rattle.suit_plans.specs.BestReplies.{Reply, allowing_layouts, best_of, reply_to_defence, reply_to_plan, worth}
use Rattle.suit_plans.specs.BestReplies.{worth_at, worth_within}
use Rattle.suit_plans.specs.declared.plan.Plan.{Plan}
use Rattle.suit_plans.specs.declared.defence.Defence.{Defence}
use Rattle.suit_plans.specs.Masses.{declarer, defence_mass, defenders, plan_mass}
use Rattle.suit_plans.specs.Properness.{IsProperDefence, IsProperPlan, sum_of}
use Rattle.suit_plans.proofs.ProperDefences.{defence_sound}
use Rattle.suit_plans.proofs.ProperPlans.{plan_sound}
use Rattle.suit_plans.proofs.SideIsRealised.{mass_positive}
use Rattle.suit_plans.proofs.SharesAddUpToTheMass.{count_case}
use Rattle.suit_lift.proofs.SharesAreMasses.{total_positive}
use Rattle.suit_classes.specs.ClassMoves.{ClassHistory}

sum_positive : (worths : List ℤ) → AllByRecursion (λ number. pos 0 ≤ℤ number) worths → pos 0 ≤ℤ sum_of worths
unfolding sum_of
sum_positive [] each = omega (arith, ints)
sum_positive (worth ∷ worths) each = omega (arith, ints, each.0, sum_positive worths each.1)

pub number_positive : (number : ℕ) → pos 0 ≤ℤ pos number
number_positive number = omega (arith, ints)

module _ (reply : Reply) (best : (a b : ℤ) → pos 0 ≤ℤ a → pos 0 ≤ℤ b
    → pos 0 ≤ℤ reply.best a b) (earned : (history : ClassHistory) → pos 0 ≤ℤ reply.earned history) where
  best_positive : (worths : List ℤ) → AllByRecursion (λ number. pos 0 ≤ℤ number) worths
      → pos 0 ≤ℤ best_of reply.best worths
  unfolding best_of
  best_positive [] each = omega (arith, ints)
  best_positive (worth ∷ []) each = each.0
  best_positive (worth ∷ next ∷ worths) each =
      best worth (best_of reply.best (next ∷ worths)) each.0 (best_positive (next ∷ worths) each.1)

  at_positive : (history : ClassHistory) (worths : List ℤ) → AllByRecursion (λ number. pos 0 ≤ℤ number) worths
      → pos 0 ≤ℤ worth_at reply history worths
  at_positive history [] each = earned history
  at_positive history (worth ∷ worths) each =
      count_case (reply.replies history) (best_of reply.best (worth ∷ worths)) (sum_of (worth ∷ worths))
      (best_positive (worth ∷ worths) each) (sum_positive (worth ∷ worths) each)

  within_positive : (n : ℕ) (history : ClassHistory) → pos 0 ≤ℤ worth_within n reply history
  unfolding worth_within
  within_positive zero history = earned history
  within_positive (suc n) history =
      at_positive history (map (λ move. worth_within n reply (history ++ move ∷ [])) (reply.moves history))
      (each_map (λ number. pos 0 ≤ℤ number) (λ move. worth_within n reply (history ++ move ∷ [])) (reply.moves history)
      (each_of (λ move. pos 0 ≤ℤ worth_within n reply (history ++ move ∷ [])) (reply.moves history)
      (λ move. within_positive n (history ++ move ∷ []))))

  reply_positive : (history : ClassHistory) → pos 0 ≤ℤ worth reply history
  reply_positive history = within_positive (MOST_MOVES - length history) history

-- no mass of a proper plan is negative
pub plan_mass_positive : (question : Question) (plan : Plan) (history : ClassHistory)
    → IsProperPlan question plan → pos 0 ≤ℤ plan_mass question plan history
unfolding plan_mass
plan_mass_positive question plan history proper =
    mass_positive question (declarer plan.den plan.rows) history (plan_sound question plan proper)

-- nor of a proper defence
pub defence_mass_positive : (question : Question) (defence : Defence) (counts : ClassLayout) (history : ClassHistory)
    → IsProperDefence question defence
    → pos 0 ≤ℤ defence_mass question defence counts history
unfolding defence_mass
defence_mass_positive question defence counts history proper =
    mass_positive question (defenders question defence.den defence.rows counts) history
    (defence_sound question defence counts proper)

lesser : (a b : ℤ) → pos 0 ≤ℤ a → pos 0 ≤ℤ b → pos 0 ≤ℤ int_min a b
lesser a b low high = omega (arith, ints, clamps)

greater : (a b : ℤ) → pos 0 ≤ℤ a → pos 0 ≤ℤ b → pos 0 ≤ℤ int_max a b
greater a b low high = omega (arith, ints, clamps)

pub worth_positive : (question : Question) (plan : Plan) (counts : ClassLayout) → IsProperPlan question plan
    → (history : ClassHistory)
    → pos 0 ≤ℤ worth (reply_to_plan question plan counts) history
worth_positive question plan counts proper =
    reply_positive (reply_to_plan question plan counts) lesser
    (λ history. mul_not_negative (pos (class_payoff (class_after question history))) (plan_mass question plan history)
    (number_positive (class_payoff (class_after question history))) (plan_mass_positive question plan history proper))

-- what a decided class history is worth in each class layout
pub layout_positive : (question : Question) (defence : Defence) → IsProperDefence question defence
    → (history : ClassHistory) (layout : List ℕ × ℕ)
    → pos 0 ≤ℤ (pos (class_payoff (class_after question history)) *ℤ defence_mass question defence layout.0 history)
layout_positive question defence proper history layout =
    mul_not_negative (pos (class_payoff (class_after question history)))
    (defence_mass question defence layout.0 history)
    (number_positive (class_payoff (class_after question history)))
    (defence_mass_positive question defence layout.0 history proper)

pub most_positive : (question : Question) (defence : Defence) → IsProperDefence question defence
    → (history : ClassHistory)
    → pos 0 ≤ℤ worth (reply_to_defence question defence) history
most_positive question defence proper =
    reply_positive (reply_to_defence question defence) greater
    (λ history. total_positive (λ (layout : List ℕ
    × ℕ). pos (class_payoff (class_after question history)) *ℤ defence_mass question defence layout.0 history)
    (allowing_layouts question history)
    (each_of (λ layout. pos 0 ≤ℤ (pos (class_payoff
    (class_after question history)) *ℤ defence_mass question defence layout.0 history))
    (allowing_layouts question history)
    (layout_positive question defence proper history)))
