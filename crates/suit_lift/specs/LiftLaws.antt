-- What holds of the lifts of plans and defences.
use Rattle.std.specs.Prelude.{◌≡◌, ℕ, ◌*◌, ◌<◌, false, Contains, ℤ, pos, ◌≤ℤ◌}
use Rattle.suit_cards.specs.Cards.{Cards}
use Rattle.suit_game.specs.declared.question.Question.{Question}
use Rattle.suit_game.specs.declared.moves.Move.{Move}
use Rattle.suit_game.specs.Fractions.{Fraction, IsAtLeast, IsAtMost}
use Rattle.suit_game.specs.Gains.{gain, is_declarer_turn, pay}
use Rattle.suit_game.specs.Histories.{History}
use Rattle.suit_game.specs.Layouts.{total}
use Rattle.suit_game.specs.PlaceViews.{IsPlay}
use Rattle.suit_game.specs.Positions.{after, legal}
use Rattle.suit_game.specs.Strategies.{DefenceWay, Way, counted}
use Rattle.suit_game.specs.Validity.{IsValid}
use Rattle.suit_classes.specs.Classes.{hands_of}
use Rattle.suit_classes.specs.ClassGame.{counts_of}
use Rattle.suit_classes.specs.ClassMoves.{merged}
use Rattle.suit_plans.specs.BestReplies.{least, most, reply_to_plan, worth}
use Rattle.suit_plans.specs.Masses.{plan_mass}
use Rattle.suit_plans.specs.Properness.{IsProperDefence, IsProperPlan}
use Rattle.suit_plans.specs.declared.plan.Plan.{Plan}
use Rattle.suit_plans.specs.declared.defence.Defence.{Defence}
use Rattle.suit_lift.specs.Lifts.{common, defence_share, defence_way, plan_share, plan_way}

-- the weight of each move in the lift of a plan is its share of the common multiple
abbrev pub PlanWeightsAreShares : Type 0
PlanWeightsAreShares = (question : Question) (plan : Plan) (history : History) (move : Move)
    → plan_way question plan history move * (plan_share question plan history move).among
    ≡ common * counted (plan_share question plan history move).count

-- and so is that of each legal move in the lift of a defence
abbrev pub DefenceWeightsAreShares : Type 0
DefenceWeightsAreShares =
    (question : Question) (defence : Defence) (west : Cards) (history : History) (move : Move)
    → IsPlay question west history
    → is_declarer_turn (after question history).trick ≡ false → Contains (legal question west history) move
    → defence_way question defence west history move * (defence_share question defence west history move).among
    ≡ common * counted (defence_share question defence west history move).count

-- after each legal history, under each layout, and whatever the defenders do, the lift of a proper plan pays at least
-- what the merged
-- history is worth against the best reply in the class layout, divided by the mass that came there
abbrev pub PlansPay : Type 0
PlansPay =
    (question : Question) (plan : Plan) (defence : DefenceWay) (west : Cards) (history : History)
    → IsProperPlan question plan → IsPlay question west history
    → IsAtLeast (pay question (plan_way question plan) defence west history)
    (counted (worth (reply_to_plan question plan (counts_of (hands_of question) west)) (merged
    (hands_of question) history)))
    (counted (plan_mass question plan (merged (hands_of question) history)))

-- a fraction is bounded by a number over a denominator times the total weight; the number is not negative, and no
-- denominator is 0
pub record IsBounded (Bounds : Fraction → ℕ → ℕ
    → Type 0) (question : Question) (fraction : Fraction) (number den : ℤ) : Type 0 where
  pub bound : Bounds fraction (counted number) (counted den * total question)
  pub not_negative : pos 0 ≤ℤ number
  pub some : 0 < fraction.den
  pub weighs : 0 < counted den * total question

-- the lift of a proper plan earns at least the plan's least, whatever the defenders do with single cards
abbrev pub PlansEarn : Type 0
PlansEarn = (question : Question) (plan : Plan) (defence : DefenceWay) → IsValid question → IsProperPlan question plan
    → IsBounded IsAtLeast question (gain question (plan_way question plan) defence) (least question plan) plan.den

-- the lift of a proper defence holds declarer to at most the defence's most, whatever he does with single cards
abbrev pub DefencesHold : Type 0
DefencesHold =
    (question : Question) (declarer : Way) (defence : Defence) → IsValid question → IsProperDefence question defence
    → IsBounded IsAtMost question (gain question declarer (defence_way question defence))
    (most question defence) defence.den
