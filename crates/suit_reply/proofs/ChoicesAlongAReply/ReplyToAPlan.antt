-- least_reply_walked: the best reply to a plan in one class layout is what one finds walking along it.
use Rattle.std.proofs.Common.{◌≡◌, ℕ, Bool, true, List, [], ◌∷◌, ◌++◌, length, map, sym, ap, ◌∙◌}
use Rattle.std.proofs.Common.{inl, inr, arith}
use Rattle.std.specs.Prelude.{Contains, if◌then◌else◌, ℤ, pos, ◌≤ℤ◌, int_lt}
use Rattle.std.proofs.lemmas.Bool.{cases_Bool}
use Rattle.std.proofs.lemmas.Int.{ints}
use Rattle.std.proofs.lemmas.List.{length-append}
use Rattle.std.proofs.lemmas.Simd.{map-map}
use Rattle.suit_lists.proofs.Elements.{Contains-first, Contains-same}
use Rattle.suit_lists.proofs.Once.{once_unless}
use Rattle.suit_cards.specs.Cards.{ClassLayout}
use Rattle.suit_game.specs.declared.question.Question.{Question}
use Rattle.suit_game.specs.Validity.{IsValid}
use Rattle.suit_classes.specs.declared.class_moves.ClassMove.{ClassMove}
use Rattle.suit_classes.specs.ClassGame.{Allows}
use Rattle.suit_classes.specs.declared.class_view.ClassView.{ClassView}
use Rattle.suit_classes.specs.ClassPlaces.{class_after, class_decided, class_moves}
use Rattle.suit_classes.proofs.AllowedMoveByMove.{allowed_moves}
use Rattle.suit_classes.proofs.DecidedStaysDecided.{class_histories_are_short}
use Rattle.suit_classes.proofs.DistinctMoves.{once_class_moves}
use Rattle.suit_classes.specs.ClassMoves.{ClassHistory}
use Rattle.suit_plans.specs.declared.moves.DefenceMove.{DefenceMove}
use Rattle.suit_plans.specs.declared.plan.Plan.{Plan}
use Rattle.suit_plans.specs.BestReplies.{Reply, choices, least_reply_in, reply_to_plan}
use Rattle.suit_plans.specs.Masses.{declarer, plan_mass}
use Rattle.suit_plans.specs.Properness.{IsProperPlan}
use Rattle.suit_plans.proofs.MassBounds.{mass_falls}
use Rattle.suit_plans.proofs.ProperPlans.{plans_are_realised}
use Rattle.suit_classes.proofs.UndecidedHasAMove.{some_move}
use Rattle.suit_plans.proofs.WorthsAtTurns.{min_picks}
use Rattle.suit_tree.proofs.MovesOn.{unless_parts}
use Rattle.suit_reply.specs.declared.chosen_move.ChosenMove.{ChosenMove}
use Rattle.suit_reply.proofs.ChoicesAlongAReply.{IsSteady, choice_of, choices_walked}
use Rattle.suit_reply.proofs.ChoicesAlongAReply.WalkOfAReply.{walked}
use Rattle.suit_reply.proofs.OwnMovesGoOn.{IsDecided}
use Rattle.suit_game.specs.declared.limits.TheConstants.{MOST_MOVES}

-- a number that is no less than one above 0 is above 0
pub live_rises : (less more : ℤ) → less ≤ℤ more → int_lt (pos 0) less ≡ true → int_lt (pos 0) more ≡ true
live_rises less more rises live = grind (arith, ints)

-- no class history of 52 moves goes on
full_decided : (question : Question) (counts : ClassLayout) (history : ClassHistory) → Allows question counts history
    → length history ≡ MOST_MOVES → IsDecided question history
full_decided question counts history allows full = elim (cases_Bool (class_decided (class_after question history))) [
  | inl decided ↦ decided
  | inr going ↦
      let moves : List ClassMove = class_moves (class_after question history) counts in
      let some = some_move question counts history allows going in
      let found : Contains moves some.first =
      Contains-same some.first (sym some.parts) (Contains-first some.first some.more) in
      let short =
      class_histories_are_short question counts (history ++ some.first ∷ [])
      ((allowed_moves question counts history some.first).1 (allows, found)) in
      absurd (omega (arith, full, short, length-append history (some.first ∷ [])))
]

-- the reply to a proper plan in a class layout is steady
pub plan_reply_steady : (question : Question) (plan : Plan) (counts : ClassLayout) → IsValid question
    → IsProperPlan question plan → Allows question counts []
    → IsSteady (Allows question counts) (reply_to_plan question plan counts)
unfolding plan_mass
plan_reply_steady question plan counts valid proper start =
    let view : ClassHistory → ClassView = class_after question in
    let legal : ClassHistory → List ClassMove = λ history. class_moves (class_after question history) counts in record {
      starts = start;
      goes_on =
          λ history move allows found. (allowed_moves question counts history move).1
          (allows, (unless_parts (class_decided (view history)) (legal history) move found).1);
      begins_live = λ history move allows found live.
          live_rises (plan_mass question plan (history ++ move ∷ [])) (plan_mass question plan history)
          (mass_falls question (declarer plan.den plan.rows) counts history move
          (plans_are_realised question plan counts valid proper) allows
          (unless_parts (class_decided (view history)) (legal history) move found).1)
          live;
      once = λ history. once_unless (class_decided (view history)) (legal history)
          (once_class_moves (view history) counts);
      picks = min_picks;
      ends = λ history allows full. ap (λ (b : Bool). if b then [] else legal history)
          (full_decided question counts history allows full);
    }

-- so the best reply to it is what one finds walking along it
pub least_reply_walked : (question : Question) (plan : Plan) (counts : ClassLayout) (index : ℕ) → IsValid question
    → IsProperPlan question plan → Allows question counts []
    → least_reply_in question plan counts index
    ≡ map (λ (choice : ChosenMove). record { layout = index; history = choice.history; mv = choice.mv })
    (walked MOST_MOVES (reply_to_plan question plan counts) [])
least_reply_walked question plan counts index valid proper start =
    let reply : Reply = reply_to_plan question plan counts in
    let named : ChosenMove → DefenceMove =
    λ choice. record { layout = index; history = choice.history; mv = choice.mv } in
    sym (map-map named (choice_of reply) (choices reply))
    ∙ ap (map named) (choices_walked (Allows question counts) reply
    (plan_reply_steady question plan counts valid proper start))
