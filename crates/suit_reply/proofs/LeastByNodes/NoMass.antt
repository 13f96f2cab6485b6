-- found_none: where no mass comes to a class history, the reply to a plan is worth nothing and has no choices.
use Rattle.std.proofs.Common.{◌≡◌, ℕ, [], ap, ◌∙◌}
use Rattle.std.specs.Prelude.{pos, int_lt}
use Rattle.suit_game.specs.declared.question.Question.{Question}
use Rattle.suit_classes.specs.ClassMoves.{ClassHistory}
use Rattle.suit_plans.specs.BestReplies.{Reply, worth_within}
use Rattle.suit_plans.specs.Masses.{plan_mass}
use Rattle.suit_plans.specs.declared.plan.Plan.{Plan}
use Rattle.suit_reply.specs.NodeReplies.{nothing}
use Rattle.suit_reply.proofs.WorthAtATurn.SumOrBest.{same_found}
use Rattle.suit_reply.proofs.ChoicesAlongAReply.WalkOfAReply.{walked, walked_none}
use Rattle.suit_reply.proofs.LeastByNodes.Cases.{LeastCase, case_allows, reply_at}
use Rattle.suit_reply.proofs.WorthAtATurn.{found_from}
use Rattle.suit_reply.proofs.OwnMovesGoOn.{layout_counts}
use Rattle.suit_plans.proofs.PlanWorths.{no_mass_no_worth}

module _ (question : Question) (plan : Plan) (index : ℕ) where
  -- where no mass comes the reply is worth nothing
  worth_none : (more : ℕ) (history : ClassHistory) → LeastCase more question plan index history
      → plan_mass question plan history ≡ pos 0 → worth_within more (reply_at question plan index) history ≡ pos 0
  worth_none more history is none =
      ap (λ (n : ℕ). worth_within n (reply_at question plan index) history) is.left
      ∙ no_mass_no_worth question plan (layout_counts question index) history is.valid is.proper
      (case_allows question plan index more history is) none

  -- and has no choices
  pub found_none : (more : ℕ) (history : ClassHistory) → LeastCase more question plan index history
      → plan_mass question plan history ≡ pos 0 → found_from more (reply_at question plan index) history ≡ nothing
  found_none more history is none =
      let reply : Reply = reply_at question plan index in
      same_found (worth_within more reply history) (pos 0) (walked more reply history) []
      (worth_none more history is none)
      (walked_none reply more history (ap (int_lt (pos 0)) none))
