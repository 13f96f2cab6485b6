-- What a plan and a defence earn when they meet, turn by turn (`met_over`, `met_on`).
use Rattle.std.proofs.Common.{◌≡◌, ◌-◌, Bool, true, false, List, [], length, refl, sym, ap, ◌∙◌, subst}
use Rattle.std.specs.Prelude.{if◌then◌else◌, pos, ◌*ℤ◌}
use Rattle.suit_lists.proofs.Firsts.{HasFirst}
use Rattle.suit_cards.specs.Cards.{ClassLayout}
use Rattle.suit_game.specs.declared.question.Question.{Question}
use Rattle.suit_game.specs.declared.limits.TheConstants.{MOST_MOVES}
use Rattle.suit_classes.specs.declared.class_moves.ClassMove.{ClassMove}
use Rattle.suit_classes.specs.ClassGame.{Allows}
use Rattle.suit_classes.specs.ClassPlaces.{class_after, class_decided, class_moves, class_payoff}
use Rattle.suit_plans.specs.declared.plan.Plan.{Plan}
use Rattle.suit_plans.specs.declared.defence.Defence.{Defence}
use Rattle.suit_plans.specs.BestReplies.{Reply, worth}
use Rattle.suit_plans.specs.Masses.{defence_mass, plan_mass}
use Rattle.suit_plans.specs.Properness.{sum_of}
use Rattle.suit_plans.specs.ReplyLaws.{worths_with}
use Rattle.suit_plans.proofs.PlanWorths.{room}
use Rattle.suit_classes.proofs.UndecidedHasAMove.{some_move}
use Rattle.suit_plans.proofs.WorthsAtTurns.{ended_worth, summed_turn}
use Rattle.suit_program.specs.Duality.{meeting}

module _ (question : Question) (plan : Plan) (defence : Defence) (west : ClassLayout) where
  abbrev met : Reply
  met = meeting question plan defence west

  abbrev legal : List ClassMove → List ClassMove
  legal history = class_moves (class_after question history) west

  -- where play is decided, the payoff for both masses
  pub met_over : (history : List ClassMove) → class_decided (class_after question history) ≡ true
      → worth met history
      ≡ pos (class_payoff (class_after question history))
      *ℤ (plan_mass question plan history *ℤ defence_mass question defence west history)
  met_over history decided = ended_worth met (MOST_MOVES - length history) history (ap (λ (b : Bool). if b then []
      else legal history) decided)

  -- and else the sum over the class moves
  pub met_on : (history : List ClassMove) → Allows question west history
      → class_decided (class_after question history) ≡ false
      → worth met history ≡ sum_of (worths_with met history (legal history))
  met_on history allows going =
      let moves : met.moves history ≡ legal history = ap (λ (b : Bool). if b then [] else legal history) going in
      let some : HasFirst (met.moves history) =
      subst (HasFirst {X = ClassMove}) (sym moves) (some_move question west history allows going) in
      summed_turn met history (room question plan west history allows going) some refl
      ∙ ap (λ (l : List ClassMove). sum_of (worths_with met history l)) moves
