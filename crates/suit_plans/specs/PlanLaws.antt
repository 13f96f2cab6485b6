-- What holds of the masses of every proper plan and defence.
use Rattle.std.specs.Prelude.{◌≡◌, ◌<◌, true, false, [], ◌∷◌, ◌++◌, map, pos, ◌≤ℤ◌}
use Rattle.suit_cards.specs.Cards.{ClassLayout}
use Rattle.suit_game.specs.declared.question.Question.{Question}
use Rattle.suit_game.specs.Validity.{IsValid}
use Rattle.suit_classes.specs.declared.class_moves.ClassMove.{ClassMove}
use Rattle.suit_classes.specs.ClassGame.{Allows}
use Rattle.suit_classes.specs.ClassPlaces.{class_after, class_moves, class_turn}
use Rattle.suit_classes.specs.ClassMoves.{ClassHistory}
use Rattle.suit_plans.specs.declared.plan.Plan.{Plan}
use Rattle.suit_plans.specs.declared.defence.Defence.{Defence}
use Rattle.suit_plans.specs.Masses.{Side, declarer, defenders, mass_of, weight_of}
use Rattle.suit_plans.specs.Properness.{IsProperDefence, IsProperPlan, sum_of}

-- the masses of a side are a realisation plan over the class histories that counts of West's allow:
-- none is negative, and at each turn of the side the moves share what came to it
pub record AreRealised (question : Question) (side : Side) (counts : ClassLayout) : Type 0 where
  pub positive : (history : ClassHistory) → Allows question counts history → pos 0 ≤ℤ mass_of question side history
  pub shared : (history : ClassHistory) → Allows question counts history
      → side.plays (class_turn (class_after question history)) ≡ true
      → sum_of (map (λ move. mass_of question side (history ++ move ∷ []))
      (class_moves (class_after question history) counts)) ≡ mass_of question side history
  pub kept : (history : ClassHistory) (move : ClassMove)
      → side.plays (class_turn (class_after question history)) ≡ false
      → mass_of question side (history ++ move ∷ []) ≡ mass_of question side history

-- a proper plan is a realisation plan, whatever West's counts
abbrev pub PlansAreRealised : Type 0
PlansAreRealised = (question : Question) (plan : Plan) (counts : ClassLayout) → IsValid question
    → IsProperPlan question plan
    → AreRealised question (declarer plan.den plan.rows) counts

-- and so is a proper defence in each class layout of positive weight
abbrev pub DefencesAreRealised : Type 0
DefencesAreRealised = (question : Question) (defence : Defence) (counts : ClassLayout) → IsValid question
    → IsProperDefence question defence → 0 < weight_of question counts
    → AreRealised question (defenders question defence.den defence.rows counts) counts
