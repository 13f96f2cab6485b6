-- case_next: the class histories that a class layout allows, where the defence replies to a plan.
use Rattle.std.proofs.Common.{◌≡◌, ℕ, zero, suc, ◌-◌, Bool, List, [], ◌∷◌, ◌++◌, length, refl, sym, ap}
use Rattle.std.proofs.Common.{◌∙◌, inl, inr, arith}
use Rattle.std.specs.Prelude.{Contains, if◌then◌else◌}
use Rattle.std.proofs.lemmas.Bool.{cases_Bool}
use Rattle.std.proofs.lemmas.List.{length-append}
use Rattle.suit_lists.proofs.Elements.{Contains-first, Contains-same}
use Rattle.suit_cards.specs.Cards.{ClassLayout}
use Rattle.suit_game.specs.declared.question.Question.{Question}
use Rattle.suit_game.specs.Validity.{IsValid}
use Rattle.suit_classes.specs.declared.class_moves.ClassMove.{ClassMove}
use Rattle.suit_classes.specs.ClassGame.{Allows}
use Rattle.suit_classes.specs.ClassPlaces.{class_after, class_moves}
use Rattle.suit_classes.proofs.AllowedMoveByMove.{allowed_moves}
use Rattle.suit_classes.proofs.DecidedStaysDecided.{class_histories_are_short}
use Rattle.suit_classes.specs.ClassMoves.{ClassHistory}
use Rattle.suit_plans.specs.BestReplies.{Reply, reply_to_plan, worth_within}
use Rattle.suit_plans.specs.Masses.{declarer}
use Rattle.suit_plans.specs.PlanLaws.{AreRealised}
use Rattle.suit_plans.specs.Properness.{IsProperPlan}
use Rattle.suit_plans.specs.declared.plan.Plan.{Plan}
use Rattle.suit_tree.specs.Trees.{allowing}
use Rattle.suit_tree.proofs.OneNodeAtEachPath.{kept_layouts}
use Rattle.suit_tree.proofs.ClassMovesLeadToNodes.{index_goes_on}
use Rattle.suit_reply.proofs.OwnMovesGoOn.{IsDecided, IsGoing, layout_counts, layout_moves, some_move}
use Rattle.suit_reply.proofs.ChoicesAlongAReply.WalkOfAReply.{walked, walked_none}
use Rattle.suit_reply.proofs.WorthAtATurn.{walked_on, worth_on}
use Rattle.suit_game.specs.declared.limits.TheConstants.{MOST_MOVES}

-- what a node is asked for: the reply to a plan from a class history on, which the class layout at an index allows
pub record LeastCase (more : ℕ) (question : Question) (plan : Plan) (index : ℕ) (history : ClassHistory) : Type 0 where
  pub valid : IsValid question
  pub proper : IsProperPlan question plan
  pub realised : AreRealised question (declarer plan.den plan.rows) (layout_counts question index)
  pub held : Contains (allowing question history) index
  pub left : more ≡ MOST_MOVES - length history

-- the defence there, replying to the plan
abbrev pub reply_at : Question → Plan → ℕ → Reply
reply_at question plan index = reply_to_plan question plan (layout_counts question index)

module _ (question : Question) (plan : Plan) (index : ℕ) where
  -- West's counts there allow the history
  pub case_allows : (more : ℕ) (history : ClassHistory) → LeastCase more question plan index history
      → Allows question (layout_counts question index) history
  case_allows more history is = ((kept_layouts question history index is.valid).0 is.held).1

  -- and the history with a class move more is such a case, with one move less
  pub case_next : (more : ℕ) (history : ClassHistory) (move : ClassMove)
      → LeastCase (suc more) question plan index history → Contains (layout_moves question index history) move
      → LeastCase more question plan index (history ++ move ∷ [])
  case_next more history move is found = record {
    valid = is.valid;
    proper = is.proper;
    realised = is.realised;
    held = (index_goes_on question history move index is.valid is.held).1 found;
    left = omega (arith, is.left, length-append history (move ∷ []));
  }

  -- the reply goes on with the class moves
  pub moves_then : (history : ClassHistory) (moves : List ClassMove) → IsGoing question history
      → layout_moves question index history ≡ moves → (reply_at question plan index).moves history ≡ moves
  moves_then history moves going is =
      ap (λ (b : Bool). if b then [] else layout_moves question index history) going ∙ is

  -- no class history that is not decided is left without moves
  pub last_decided : (history : ClassHistory) (moves : List ClassMove) → LeastCase 0 question plan index history
      → IsGoing question history → layout_moves question index history ≡ moves → ⊥
  last_decided history [] is going none =
      some_move question (layout_counts question index) history (case_allows 0 history is) going none
  last_decided history (move ∷ moves) is going some =
      let counts : ClassLayout = layout_counts question index in
      let allowed : Allows question counts history = case_allows 0 history is in
      let found : Contains (class_moves (class_after question history) counts) move =
      Contains-same move (sym some) (Contains-first move moves) in
      omega (
        arith,
        is.left,
        length-append history (move ∷ []),
        class_histories_are_short question counts (history ++ move ∷ [])
            ((allowed_moves question counts history move).1 (allowed, found)),
      )

  -- a decided class history is worth what is earned
  pub worth_decided : (more : ℕ) (history : ClassHistory) → IsDecided question history
      → worth_within more (reply_at question plan index) history ≡ (reply_at question plan index).earned history
  unfolding worth_within
  worth_decided zero history decided = refl
  worth_decided (suc more) history decided =
      worth_on (reply_at question plan index) more history []
      (ap (λ (b : Bool). if b then [] else layout_moves question index history) decided)

  -- and has no choices
  pub walked_decided : (more : ℕ) (history : ClassHistory) → IsDecided question history
      → walked more (reply_at question plan index) history ≡ []
  unfolding walked
  walked_decided zero history decided = refl
  walked_decided (suc more) history decided =
      let reply : Reply = reply_at question plan index in
      elim (cases_Bool (reply.live history)) [
        | inl live ↦
            walked_on reply more history [] live
            (ap (λ (b : Bool). if b then [] else layout_moves question index history) decided)
        | inr dead ↦ walked_none reply (suc more) history dead
      ]
