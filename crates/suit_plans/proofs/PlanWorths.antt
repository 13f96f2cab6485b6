-- What class histories are worth to the reply to a plan, at each turn and within which bounds (`plans_paid`).
use Rattle.std.proofs.Common.{◌≡◌, ℕ, zero, suc, ◌-◌, ◌<◌, Bool, true, false, List, [], ◌∷◌, ◌++◌, length, map, refl}
use Rattle.std.proofs.Common.{sym, ap, ◌∙◌, subst, arith}
use Rattle.std.specs.Prelude.{Contains, if◌then◌else◌, ℤ}
use Rattle.std.specs.Int.{int_min}
use Rattle.std.proofs.lemmas.List.{length-append}
use Rattle.suit_lists.proofs.Elements.{Contains-first, Contains-same}
use Rattle.suit_lists.proofs.Firsts.{HasFirst, HasFirst-map}
use Rattle.suit_cards.specs.Cards.{ClassLayout}
use Rattle.suit_game.specs.declared.question.Question.{Question}
use Rattle.suit_classes.specs.declared.class_moves.ClassMove.{ClassMove}
use Rattle.suit_classes.specs.ClassGame.{Allows}
use Rattle.suit_classes.specs.ClassPlaces.{class_after, class_decided, class_moves, class_payoff, class_turn}
use Rattle.suit_classes.proofs.AllowedMoveByMove.{allowed_moves}
use Rattle.suit_classes.proofs.DecidedStaysDecided.{class_histories_are_short}
use Rattle.suit_plans.specs.declared.plan.Plan.{Plan}
use Rattle.suit_plans.specs.BestReplies.{Reply, best_of, reply_to_plan, worth}
use Rattle.suit_plans.specs.Masses.{declarer, is_declarers, is_defences, plan_mass}
use Rattle.suit_plans.specs.PlanLaws.{AreRealised}
use Rattle.suit_plans.specs.Properness.{sum_of}
use Rattle.suit_plans.specs.ReplyLaws.{IsLeastOf, IsPaid, NoMassIsWorthNothing, PlansArePaid, PlansAtDecided}
use Rattle.suit_plans.specs.ReplyLaws.{PlansAtDeclarers, PlansAtDefences, worths_with}
use Rattle.suit_plans.proofs.AtMostThirteenTricks.{none_paid, one_paid, paid_most, product_paid, sum_paid}
use Rattle.suit_plans.proofs.ProperPlans.{plans_are_realised as plans_realised}
use Rattle.suit_classes.proofs.UndecidedHasAMove.{some_move}
use Rattle.suit_plans.proofs.WhoseTurns.{Declarers, Defences, Over, WhoseTurn, own_turn, their_turn, whose_turn}
use Rattle.suit_plans.proofs.WorthsAtTurns.{best_turn, ended_worth, least_of, left_after, summed_turn}
use Rattle.suit_game.specs.declared.limits.TheConstants.{MOST_MOVES}
use Rattle.suit_classes.specs.ClassMoves.{ClassHistory}

module _ (question : Question) (plan : Plan) (counts : ClassLayout) where
  abbrev reply : Reply
  reply = reply_to_plan question plan counts

  abbrev legal : ClassHistory → List ClassMove
  legal history = class_moves (class_after question history) counts

  -- the moves of the reply, where play is not decided
  pub moves_going : (history : ClassHistory) → class_decided (class_after question history) ≡ false
      → reply.moves history ≡ legal history
  moves_going history going = ap (λ (b : Bool). if b then [] else legal history) going

  at_decided : (history : ClassHistory) → class_decided (class_after question history) ≡ true
      → worth reply history ≡ reply.earned history
  at_decided history decided = ended_worth reply (MOST_MOVES - length history) history (ap (λ (b : Bool). if b then []
      else legal history) decided)

  module _ (history : ClassHistory) (allows : Allows question counts history)
      (going : class_decided (class_after question history) ≡ false) where
    some_legal : HasFirst (legal history)
    some_legal = some_move question counts history allows going

    some_there : HasFirst (reply.moves history)
    some_there = subst (HasFirst {X = ClassMove}) (sym (moves_going history going)) some_legal

    -- there is room for a move
    pub room : length history < MOST_MOVES
    room =
        let first : ClassMove = some_legal.first in
        let found : Contains (legal history) first =
        Contains-same first (sym some_legal.parts)
        (Contains-first first some_legal.more) in
        let short = class_histories_are_short question counts (history ++ first
        ∷ []) ((allowed_moves question counts history first).1 (allows, found)) in
        omega (arith, short, length-append history (first ∷ []))

    summed : is_defences (class_turn (class_after question history)) ≡ false
        → worth reply history ≡ sum_of (worths_with reply history (legal history))
    summed not_theirs =
        summed_turn reply history room some_there not_theirs
        ∙ ap (λ (l : List ClassMove). sum_of (worths_with reply history l)) (moves_going history going)

    least : is_defences (class_turn (class_after question history)) ≡ true
        → IsLeastOf (worths_with reply history (legal history)) (worth reply history)
    least theirs =
        let worths = worths_with reply history (legal history) in
        let best : worth reply history ≡ best_of int_min worths =
        best_turn reply history room some_there theirs
        ∙ ap (λ (l : List ClassMove). best_of int_min (worths_with reply history l)) (moves_going history going) in
        subst (IsLeastOf worths) (sym best)
        (least_of worths (HasFirst-map (λ move. worth reply (history ++ move ∷ [])) (legal history) some_legal))

pub plans_at_decided : PlansAtDecided
plans_at_decided question plan counts history decided = at_decided question plan counts history decided

pub plans_at_declarers : PlansAtDeclarers
plans_at_declarers question plan counts history allows own =
    let turn = own_turn (class_after question history) own in
    summed question plan counts history allows turn.0 turn.1

pub plans_at_defences : PlansAtDefences
plans_at_defences question plan counts history allows theirs =
    least question plan counts history allows (their_turn (class_after question history) theirs).0 theirs

module _ (question : Question) (plan : Plan) (counts : ClassLayout)
    (realised : AreRealised question (declarer plan.den plan.rows) counts) where
  abbrev to_plan : Reply
  to_plan = reply_to_plan question plan counts

  abbrev class_moves_at : ClassHistory → List ClassMove
  class_moves_at history = class_moves (class_after question history) counts

  earned_paid : (history : ClassHistory) → Allows question counts history
      → IsPaid (plan_mass question plan history) (to_plan.earned history)
  unfolding plan_mass
  earned_paid history allows =
      product_paid (class_payoff (class_after question history)) (plan_mass question plan history)
      (paid_most question counts history allows)
      (realised.positive history allows)

  -- the masses that go on from a turn of declarer's add up
  masses_shared : (history : ClassHistory) → Allows question counts history
      → is_declarers (class_turn (class_after question history)) ≡ true
      → sum_of (map (λ move. plan_mass question plan (history ++ move ∷ [])) (class_moves_at history))
      ≡ plan_mass question plan history
  unfolding plan_mass
  masses_shared history allows own = realised.shared history allows own

  masses_kept : (history : ClassHistory) (move : ClassMove)
      → is_declarers (class_turn (class_after question history)) ≡ false
      → plan_mass question plan (history ++ move ∷ []) ≡ plan_mass question plan history
  unfolding plan_mass
  masses_kept history move theirs = realised.kept history move theirs

  turn_paid : (history : ClassHistory) → Allows question counts history
      → ((move : ClassMove) → Contains (class_moves_at history) move
      → IsPaid (plan_mass question plan (history ++ move ∷ [])) (worth to_plan (history ++ move ∷ [])))
      → WhoseTurn (class_after question history) → IsPaid (plan_mass question plan history) (worth to_plan history)
  turn_paid history allows paid (Over decided turn) =
      subst (IsPaid (plan_mass question plan history)) (sym (at_decided question plan counts history decided))
      (earned_paid history allows)
  turn_paid history allows paid (Declarers going own not_theirs) =
      let sum : ℤ = sum_of (worths_with to_plan history (class_moves_at history)) in
      subst (IsPaid (plan_mass question plan history))
      (sym (summed question plan counts history allows going not_theirs))
      (subst (λ (mass : ℤ). IsPaid mass sum) (masses_shared history allows own)
      (sum_paid (λ move. worth to_plan (history ++ move ∷ [])) (λ move. plan_mass question plan (history ++ move ∷ []))
      (class_moves_at history) paid))
  turn_paid history allows paid (Defences going not_own theirs) =
      one_paid (plan_mass question plan history) (λ move. worth to_plan (history ++ move ∷ [])) (class_moves_at history)
      (worth to_plan history)
      (least question plan counts history allows going theirs).attained
      (λ move found. subst (λ (mass : ℤ). IsPaid mass (worth to_plan (history ++ move ∷ [])))
      (masses_kept history move not_own) (paid move found))

  paid_from : (more : ℕ) (history : ClassHistory) → Allows question counts history → more ≡ MOST_MOVES - length history
      → IsPaid (plan_mass question plan history) (worth to_plan history)
  paid_from zero history allows left =
      turn_paid history allows (λ move found.
      let short = class_histories_are_short question counts (history ++ move
      ∷ []) ((allowed_moves question counts history move).1 (allows, found)) in
      absurd (omega (arith, left, short, length-append history (move ∷ []))))
      (whose_turn (class_after question history))
  paid_from (suc more) history allows left =
      turn_paid history allows
      (λ move found. paid_from more (history ++ move ∷ []) ((allowed_moves question counts history move).1 (
        allows,
        found,
      )) (left_after history move more left))
      (whose_turn (class_after question history))

-- against a proper plan each class history that is allowed is worth no more than thirteen tricks of its mass
pub plans_paid : PlansArePaid
plans_paid question plan counts history valid proper allows =
    paid_from question plan counts (plans_realised question plan counts valid proper) (MOST_MOVES - length history) history
    allows refl

pub no_mass_no_worth : NoMassIsWorthNothing
no_mass_no_worth question plan counts history valid proper allows none =
    none_paid (plan_mass question plan history) (worth (reply_to_plan question plan counts) history)
    (plans_paid question plan counts history valid proper allows) none
