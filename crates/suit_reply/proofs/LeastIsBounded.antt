-- worth_paid: what the best reply to a plan is worth lies between nothing and thirteen tricks of the mass.
use Rattle.std.proofs.Common.{◌≡◌, ℕ, suc, List, [], ◌∷◌, ◌++◌, map, take, sym}
use Rattle.std.proofs.Common.{subst}
use Rattle.std.specs.Prelude.{Contains, ℤ, pos, ◌*ℤ◌}
use Rattle.suit_game.specs.declared.question.Question.{Question}
use Rattle.suit_game.specs.declared.limits.TheConstants.{HAND_SIZE}
use Rattle.suit_classes.specs.declared.class_moves.ClassMove.{ClassMove}
use Rattle.suit_classes.specs.ClassMoves.{ClassHistory}
use Rattle.suit_plans.specs.BestReplies.{worth_within}
use Rattle.suit_plans.specs.Masses.{plan_mass}
use Rattle.suit_plans.specs.Properness.{sum_of}
use Rattle.suit_plans.specs.ReplyLaws.{IsPaid}
use Rattle.suit_plans.proofs.NumberSums.{first_sums}
use Rattle.suit_plans.proofs.AtMostThirteenTricks.{sum_paid}
use Rattle.suit_plans.proofs.PlanWorths.{plans_paid}
use Rattle.suit_plans.specs.declared.plan.Plan.{Plan}
use Rattle.suit_reply.proofs.OwnMovesGoOn.{IsDeclarersTurn, layout_counts, layout_moves}
use Rattle.suit_reply.proofs.LeastByNodes.Cases.{LeastCase, case_allows, case_next, reply_at}
use Rattle.suit_reply.proofs.OneMoreAdded.{le_through}

-- what the moves of a turn are worth
abbrev worths_next : ℕ → Question → Plan → ℕ → ClassHistory → ClassMove → ℤ
worths_next more question plan index history move =
    worth_within more (reply_at question plan index) (history ++ move ∷ [])

module _ (question : Question) (plan : Plan) (index : ℕ) where
  -- the masses that go on from a turn of declarer's add up
  masses_shared : (more : ℕ) (history : ClassHistory) → LeastCase more question plan index history
      → IsDeclarersTurn question history
      → sum_of (map (λ move. plan_mass question plan (history ++ move ∷ [])) (layout_moves question index history))
      ≡ plan_mass question plan history
  unfolding plan_mass
  masses_shared more history is own = is.realised.shared history (case_allows question plan index more history is) own

  own_paid : (more : ℕ) (history : ClassHistory) → LeastCase (suc more) question plan index history
      → ((move : ClassMove) → Contains (layout_moves question index history) move
      → IsPaid (plan_mass question plan (history ++ move ∷ [])) (worths_next more question plan index history move))
      → IsDeclarersTurn question history
      → IsPaid (plan_mass question plan history)
      (sum_of (map (worths_next more question plan index history) (layout_moves question index history)))
  own_paid more history is paid own =
      subst (λ (mass : ℤ). IsPaid mass
      (sum_of (map (worths_next more question plan index history) (layout_moves question index history))))
      (masses_shared (suc more) history is own)
      (sum_paid (worths_next more question plan index history)
      (λ move. plan_mass question plan (history ++ move ∷ [])) (layout_moves question index history) paid)

  -- what the best reply to a plan is worth from a class history on is not negative, and at most thirteen tricks of the
  -- mass that comes to it
  pub worth_paid : (more : ℕ) (history : ClassHistory) → LeastCase more question plan index history
      → IsPaid (plan_mass question plan history) (worth_within more (reply_at question plan index) history)
  worth_paid more history is =
      subst (λ (n : ℕ). IsPaid (plan_mass question plan history)
      (worth_within n (reply_at question plan index) history)) (sym is.left)
      (plans_paid question plan (layout_counts question index) history is.valid is.proper
      (case_allows question plan index more history is))

  -- nor does the sum over the first moves of a turn of declarer's leave these bounds
  pub sums_paid : (more : ℕ) (history : ClassHistory) (i : ℕ) → LeastCase (suc more) question plan index history
      → IsDeclarersTurn question history → IsPaid (plan_mass question plan history)
      (sum_of (take i (map (λ move. worth_within more (reply_at question plan index) (history ++ move ∷ []))
      (layout_moves question index history))))
  sums_paid more history i is own =
      let moves : List ClassMove = layout_moves question index history in
      let worths : ClassMove → ℤ = worths_next more question plan index history in
      let paid : (move : ClassMove) → Contains moves move
      → IsPaid (plan_mass question plan (history ++ move ∷ [])) (worths move) =
      λ move found. worth_paid more (history ++ move ∷ []) (case_next question plan index more history move is found) in
      let whole = own_paid more history is paid own in
      let first = first_sums worths moves i (λ move found. (paid move found).some) in
      record {
        some = first.0;
        few = le_through (sum_of (take i (map worths moves))) (sum_of (map worths moves))
            (pos HAND_SIZE *ℤ plan_mass question plan history) first.1 whole.few;
      }
