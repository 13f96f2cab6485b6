-- No legal move goes on with more than the mass that came to its turn.
use Rattle.std.proofs.Common.{List, [], ◌∷◌, ◌++◌, sym, subst, inl, inr}
use Rattle.std.specs.Prelude.{ℤ, ◌≤ℤ◌, Contains}
use Rattle.std.specs.Int.Signed.{≤ℤ_refl}
use Rattle.std.proofs.lemmas.Bool.{cases_Bool}
use Rattle.suit_cards.specs.Cards.{ClassLayout}
use Rattle.suit_game.specs.declared.question.Question.{Question}
use Rattle.suit_classes.specs.declared.class_moves.ClassMove.{ClassMove}
use Rattle.suit_classes.specs.ClassGame.{Allows}
use Rattle.suit_classes.specs.ClassPlaces.{class_after, class_moves, class_turn}
use Rattle.suit_classes.proofs.AllowedMoveByMove.{allowed_moves}
use Rattle.suit_plans.specs.Masses.{Side, mass_of}
use Rattle.suit_plans.specs.PlanLaws.{AreRealised}
use Rattle.suit_plans.proofs.SharesAddUpToTheMass.{within_sum}
use Rattle.suit_classes.specs.ClassMoves.{ClassHistory}

-- a legal move goes on with no more than what came to its turn
pub mass_falls : (question : Question) (side : Side) (counts : ClassLayout) (history : ClassHistory) (move : ClassMove)
    → AreRealised question side counts → Allows question counts history
    → Contains (class_moves (class_after question history) counts) move
    → mass_of question side (history ++ move ∷ []) ≤ℤ mass_of question side history
mass_falls question side counts history move realised allows found =
    elim (cases_Bool (side.plays (class_turn (class_after question history)))) [
      | inl plays ↦
          subst (λ (z : ℤ). mass_of question side (history ++ move ∷ []) ≤ℤ z) (realised.shared history allows plays)
          (within_sum (λ other. mass_of question side (history ++ other ∷ []))
          (class_moves (class_after question history) counts) move
          (λ other there. realised.positive (history ++ other
          ∷ []) ((allowed_moves question counts history other).1 (allows, there))) found)
      | inr waits ↦ subst (λ (z : ℤ). z ≤ℤ mass_of question side history) (sym (realised.kept history move waits))
          (≤ℤ_refl (mass_of question side history))
    ]
