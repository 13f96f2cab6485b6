-- After each legal history the lift of a plan pays at least what its class history is worth (plans_pay).
use Rattle.std.proofs.Common.{◌≡◌, ℕ, zero, suc, ◌*◌, ◌≤◌, ◌<◌, Bool, true, false, not, List, [], ◌∷◌, ◌++◌, map, refl}
use Rattle.std.proofs.Common.{sym, ap, ◌∙◌, subst, inl, inr, arith}
use Rattle.std.specs.Prelude.{Contains, ℤ, pos, ◌≤ℤ◌, if◌then◌else◌}
use Rattle.std.specs.Int.{int_min}
use Rattle.std.specs.List.{AllByRecursion, sum_by}
use Rattle.std.proofs.Math.Nat.{mul-le-mul_left, mul-pos}
use Rattle.std.proofs.lemmas.Bool.{cases_Bool, true≢false}
use Rattle.suit_lists.proofs.Elements.{each_in}
use Rattle.suit_lists.proofs.Firsts.{HasFirst}
use Rattle.suit_lists.proofs.Maps.{Contains-map, each_map}
use Rattle.suit_lists.proofs.Sums.{sum_by-mul, sum_by_same}
use Rattle.suit_cards.specs.Cards.{Cards}
use Rattle.suit_game.specs.declared.question.Question.{Question}
use Rattle.suit_game.specs.declared.moves.Move.{Move}
use Rattle.suit_game.specs.Fractions.{Fraction, IsAtLeast, mean}
use Rattle.suit_game.specs.Gains.{is_declarer_turn, pay}
use Rattle.suit_game.specs.Histories.{History}
use Rattle.suit_game.specs.Lengths.{room}
use Rattle.suit_game.specs.PlaceViews.{IsPlay}
use Rattle.suit_game.specs.Positions.{after, legal, payoff}
use Rattle.suit_game.specs.Strategies.{DefenceWay, Weighed, chosen, counted}
use Rattle.suit_game.proofs.ChosenIsLegal.{chosen_each}
use Rattle.suit_game.proofs.EnoughMoves.{ended_with_no_room, pay_where_on, room_after_move}
use Rattle.suit_game.proofs.DistinctLegalMoves.{legal_once}
use Rattle.suit_game.proofs.PayDenominators.{pay-den}
use Rattle.suit_game.proofs.PlaceSeenAfterAMove.{play_more}
use Rattle.suit_game.proofs.MeansLieBetween.{mean-least}
use Rattle.suit_classes.specs.declared.class_moves.ClassMove.{ClassMove}
use Rattle.suit_classes.specs.Classes.{Hands, hands_of}
use Rattle.suit_classes.specs.ClassGame.{counts_of, each_once, is_decided, merged_moves}
use Rattle.suit_classes.specs.ClassMoves.{merge, merged}
use Rattle.suit_classes.specs.ClassPlaces.{class_after, class_decided, class_moves, class_payoff, class_turn}
use Rattle.suit_classes.proofs.ClassGameAgrees.{class_game_agrees}
use Rattle.suit_classes.proofs.AllowedMoveByMove.{each_once-Contains, merged-push}
use Rattle.suit_plans.specs.BestReplies.{Reply, best_of, reply_to_plan, worth}
use Rattle.suit_plans.specs.declared.plan.Plan.{Plan}
use Rattle.suit_plans.specs.Masses.{declarer, is_declarers, plan_shares_at, plan_mass}
use Rattle.suit_plans.specs.Properness.{IsProperPlan, sum_of}
use Rattle.suit_plans.proofs.MassSteps.{mass_kept}
use Rattle.suit_plans.proofs.ProperPlans.{plans_are_realised}
use Rattle.suit_plans.proofs.TurnMoves.{declarers_moves}
use Rattle.suit_lift.specs.Lifts.{RowCounts, class_share, common, is_lowest, plan_share, plan_way}
use Rattle.suit_lift.proofs.PayOfADecidedPlay.{decided_pay}
use Rattle.suit_lift.proofs.LegalMoves.{declarers_legal}
use Rattle.suit_lift.proofs.SumsOverMergedMoves.{lowest_sum}
use Rattle.suit_lift.proofs.WorthsAreNotNegative.{worth_positive}
use Rattle.suit_lift.proofs.WorthAfterEachMove.{least_of, worth_none, worth_on}
use Rattle.suit_lift.proofs.SharesAreMasses.{IsSharedOut, counted_least, counted_mul, counted_total, side_shares, some_merges}
use Rattle.suit_lift.proofs.MeanOfShares.{IsShared, shared_mean, valued}
use Rattle.suit_lift.proofs.PlayGoesOn.{IsOn, is_on, view_after}

weight_is : (question : Question) (plan : Plan) (history : History) (move : Move)
    → plan_way question plan history move
    ≡ common * (if is_lowest (hands_of question) (legal question [] history) move
    then class_share (plan_shares_at plan.rows (merged (hands_of question) history)) (map (merge
    (hands_of question)) (legal question [] history)) (merge (hands_of question) move)
    else 0)
unfolding plan_way plan_share common
weight_is question plan history move = refl

-- at declarer's turn the lift gives weight to the lowest card of each class, by the class's share
pub plan_weight : (question : Question) (plan : Plan) (west : Cards) (history : History) (move : Move)
    → is_declarer_turn (after question history).trick ≡ true
    → plan_way question plan history move
    ≡ common * (if is_lowest (hands_of question) (legal question west history) move
    then class_share (plan_shares_at plan.rows (merged (hands_of question) history)) (map (merge
    (hands_of question)) (legal question west history)) (merge (hands_of question) move)
    else 0)
plan_weight question plan west history move on =
    weight_is question plan history move
    ∙ ap (λ (moves : List Move). common * (if is_lowest (hands_of question) moves move
    then class_share (plan_shares_at plan.rows (merged (hands_of question) history)) (map (merge
    (hands_of question)) moves) (merge (hands_of question) move)
    else 0)) (declarers_legal question [] west history on)

pub common_some : 0 < common
unfolding common
common_some = omega arith

first_once : (merges : List ClassMove) → HasFirst merges → HasFirst (each_once merges)
unfolding each_once
first_once [] some = absurd (cc)
first_once (first ∷ merges) some = record { first = _; more = _; parts = refl }

shared_case : (lowest : Bool) (value : Fraction) (weight worth mass share all W whole : ℕ) → 0 < value.den
    → IsAtLeast value worth mass → mass * W ≡ share * whole
    → weight ≡ common * (if lowest then share else 0) → all ≡ common * W
    → IsShared value (if lowest then worth else 0) (if lowest then mass else 0) weight all whole
shared_case true value weight worth mass share all W whole some least shared is sum = record {
  some = some;
  least = least;
  shared = rw (is, sum) (omega (arith, ap (λ (n : ℕ). common * n) shared));
}
shared_case false value weight worth mass share all W whole some least shared is sum = record {
  some = some;
  least = omega arith;
  shared = omega arith;
}

module _ (question : Question) (plan : Plan) (defence : DefenceWay) (west : Cards) where
  -- the statement, after a history
  abbrev Pays : History → Type 0
  Pays history =
      IsAtLeast (pay question (plan_way question plan) defence west history)
      (counted (worth (reply_to_plan question plan (counts_of (hands_of question) west)) (merged
      (hands_of question) history)))
      (counted (plan_mass question plan (merged (hands_of question) history)))

  module _ (proper : IsProperPlan question plan) (history : History) (play : IsPlay question west history) where
    pays_decided : is_decided question (after question history) ≡ true → Pays history
    pays_decided decided =
        let line : List ClassMove = merged (hands_of question) history in
        let agrees = class_game_agrees question west history play in
        let reply : Reply = reply_to_plan question plan (counts_of (hands_of question) west) in
        let over : class_decided (class_after question line) ≡ true = agrees.decided ∙ decided in
        let earned : counted (worth reply line) ≡ payoff question.goal (after question history).won
        * counted (plan_mass question plan line) =
        ap counted (worth_none reply line (ap (λ (b : Bool). if b then [] else class_moves
        (class_after question line) (counts_of (hands_of question) west)) over))
        ∙ counted_mul (class_payoff (class_after question line)) (plan_mass question plan line)
        ∙ ap (λ (n : ℕ). n * counted (plan_mass question plan line)) agrees.payoff in
        let least = (decided_pay question (plan_way question plan) defence west history play decided).0 in
        rw earned (omega (arith, mul-le-mul_left (counted (plan_mass question plan line)) least))

    module _ (on : IsOn question west history) (later : (move : Move) → Contains (legal question west history) move
        → Pays (history ++ move ∷ [])) where
      replied_moves : (reply_to_plan question plan (counts_of (hands_of question) west)).moves (merged
          (hands_of question) history) ≡ merged_moves question west history
      replied_moves =
          ap (λ (b : Bool). if b then [] else class_moves (view_after question history) (counts_of
          (hands_of question) west)) on.undecided ∙ on.moves

      pay_is : (b : Bool) → is_declarer_turn (after question history).trick ≡ b
          → pay question (plan_way question plan) defence west history
          ≡ mean (valued (λ move. pay question (plan_way question plan) defence west (history ++ move ∷ []))
          (chosen (if b then plan_way question plan history else defence west history) (legal question west history)))
      pay_is b turn =
          pay_where_on question
          (plan_way question plan) defence west history play.valid.north play.valid.south play.valid.apart play.legal
          on.goes
          ∙ ap (λ (own : Bool). mean (valued (λ move. pay question (plan_way question plan) defence west
          (history ++ move ∷ []))
          (chosen (if own then plan_way question plan history else defence west history)
          (legal question west history)))) turn

      pays_later : (move : Move) → Contains (legal question west history) move
          → IsAtLeast (pay question (plan_way question plan) defence west (history ++ move ∷ []))
          (counted (worth (reply_to_plan question plan (counts_of (hands_of question) west)) (merged
          (hands_of question) history ++ merge (hands_of question) move ∷ [])))
          (counted (plan_mass question plan (merged (hands_of question) history ++ merge
          (hands_of question) move ∷ [])))
      pays_later move found =
          subst (λ (line : List ClassMove). IsAtLeast (pay question (plan_way question plan) defence west
          (history ++ move ∷ []))
          (counted (worth (reply_to_plan question plan (counts_of (hands_of question) west)) line)) (counted
          (plan_mass question plan line)))
          (merged-push (hands_of question) history move) (later move found)

      -- what the merged history is worth, by the side on turn
      worth_is : (b : Bool) → is_declarer_turn (after question history).trick ≡ b
          → worth (reply_to_plan question plan (counts_of (hands_of question) west)) (merged
          (hands_of question) history)
          ≡ (if not b
          then best_of int_min (map (λ move. worth (reply_to_plan question plan (counts_of
          (hands_of question) west)) (merged (hands_of question) history ++ move ∷ []))
          (merged_moves question west history))
          else sum_of (map (λ move. worth (reply_to_plan question plan (counts_of (hands_of question) west)) (merged
          (hands_of question) history ++ move ∷ []))
          (merged_moves question west history)))
      worth_is b turn =
          let reply : Reply = reply_to_plan question plan (counts_of (hands_of question) west) in
          let worths : List ℤ = map (λ move. worth reply (merged (hands_of question) history ++ move ∷ []))
          (merged_moves question west history) in
          worth_on reply (merged (hands_of question) history) (merged_moves question west history) on.few replied_moves
          (first_once (map (merge (hands_of question)) (legal question west history)) (some_merges question
          (legal question west history) on.some))
          ∙ ap (λ (own : Bool). if own then best_of int_min worths else sum_of worths) (on.defences ∙ ap not turn)

      pays_declarer : is_declarer_turn (after question history).trick ≡ true → Pays history
      unfolding plan_mass
      pays_declarer own =
          let hands : Hands = hands_of question in
          let line : List ClassMove = merged hands history in
          let moves : List Move = legal question west history in
          let merges : List ClassMove = map (merge hands) moves in
          let reply : Reply = reply_to_plan question plan (counts_of hands west) in
          let value : Move → Fraction = λ move. pay question (plan_way question plan) defence west
          (history ++ move ∷ []) in
          let row : RowCounts = plan_shares_at plan.rows line in
          let share : ClassMove → ℕ = class_share row merges in
          let worths : ClassMove → ℕ = λ move. counted (worth reply (line ++ move ∷ [])) in
          let masses : ClassMove → ℕ = λ move. counted (plan_mass question plan (line ++ move ∷ [])) in
          let weight_of : Move → ℕ = plan_way question plan history in
          let plays : is_declarers (class_turn (view_after question history)) ≡ true = on.declarers ∙ own in
          let shared : IsSharedOut row merges (plan_mass question plan line) (λ move. plan_mass question plan
          (line ++ move ∷ [])) =
          side_shares question (declarer plan.den plan.rows) west history play on (plans_are_realised question plan
          (counts_of hands west) play.valid proper) plays
          (declarers_moves (view_after question history) [] (counts_of hands west) plays ∙ on.moves) in
          let once = legal_once question west history play in
          let all : sum_by weight_of moves ≡ common * sum_by share (each_once merges) =
          sum_by_same weight_of (λ move. common * (if is_lowest hands moves move then share
          (merge hands move) else 0)) moves
          (λ move. plan_weight question plan west history move own)
          ∙ sum_by-mul common (λ move. if is_lowest hands moves move then share (merge hands move) else 0) moves
          ∙ ap (λ (n : ℕ). common * n) (lowest_sum hands share moves once) in
          let some : 0 < sum_by weight_of moves = rw all (mul-pos common_some shared.some) in
          let bound : Move → ℕ = λ move. if is_lowest hands moves move then worths (merge hands move) else 0 in
          let mass : Move → ℕ = λ move. if is_lowest hands moves move then masses (merge hands move) else 0 in
          let bounds : sum_by bound moves ≡ counted (worth reply line) =
          lowest_sum hands worths moves once
          ∙ sym (counted_total (λ move. worth reply (line ++ move ∷ [])) (each_once merges)
          (each_in (λ move. pos 0 ≤ℤ worth reply (line ++ move ∷ [])) (each_once merges)
          (λ move found. worth_positive question plan (counts_of hands west) proper (line ++ move ∷ []))))
          ∙ ap counted (sym (worth_is true own)) in
          let each : AllByRecursion (λ move. IsShared (value move) (bound move) (mass move) (weight_of move)
          (sum_by weight_of moves) (counted (plan_mass question plan line))) moves =
          each_in (λ move. IsShared (value move) (bound move) (mass move) (weight_of move) (sum_by weight_of moves)
          (counted (plan_mass question plan line))) moves
          (λ move found. shared_case (is_lowest hands moves move) (value move) (weight_of move) (worths
          (merge hands move)) (masses (merge hands move)) (share (merge hands move))
          (sum_by weight_of moves) (sum_by share (each_once merges)) (counted (plan_mass question plan line))
          (pay-den question (plan_way question plan) defence west (history ++ move ∷ [])) (pays_later move found)
          (shared.each (merge hands move) (each_once-Contains merges (merge hands move) (Contains-map
          (merge hands) moves move found)))
          (plan_weight question plan west history move own) all) in
          subst (λ (fraction : Fraction). IsAtLeast fraction (counted (worth reply line)) (counted
          (plan_mass question plan line))) (sym (pay_is true own))
          (subst (λ (n : ℕ). IsAtLeast (mean (valued value (chosen weight_of moves))) n (counted
          (plan_mass question plan line))) bounds
          (shared_mean weight_of value bound mass (counted (plan_mass question plan line)) moves some each))

      pays_defence : is_declarer_turn (after question history).trick ≡ false → Pays history
      unfolding plan_mass
      pays_defence theirs =
          let hands : Hands = hands_of question in
          let line : List ClassMove = merged hands history in
          let moves : List Move = legal question west history in
          let merges : List ClassMove = map (merge hands) moves in
          let reply : Reply = reply_to_plan question plan (counts_of hands west) in
          let value : Move → Fraction = λ move. pay question (plan_way question plan) defence west
          (history ++ move ∷ []) in
          let bound : ℕ = counted (worth reply line) in
          let mass : ℕ = counted (plan_mass question plan line) in
          let each : (move : Move) → Contains moves move → IsAtLeast (value move) bound mass =
          λ move found.
          let class : ClassMove = merge hands move in
          let there = each_once-Contains merges class (Contains-map (merge hands) moves move found) in
          let kept : counted (plan_mass question plan (line ++ class ∷ [])) ≡ mass =
          ap counted (mass_kept question (declarer plan.den plan.rows) line class (on.declarers ∙ theirs)) in
          let low : bound ≤ counted (worth reply (line ++ class ∷ [])) =
          counted_least (worth reply line) (worth reply (line ++ class ∷ []))
          (subst (λ (z : ℤ). z ≤ℤ worth reply (line ++ class ∷ [])) (sym (worth_is false theirs))
          (least_of (λ other. worth reply (line ++ other ∷ [])) (each_once merges) class there)) in
          omega (
            arith,
            mul-le-mul_left (value move).den low,
            subst (λ (n : ℕ). IsAtLeast (value move) (counted
                (worth reply (line ++ class ∷ []))) n) kept (pays_later move found),
          ) in
          subst (λ (fraction : Fraction). IsAtLeast fraction bound mass) (sym (pay_is false theirs))
          (mean-least bound mass (valued value (chosen (defence west history) moves))
          (each_map (λ item. IsAtLeast item.1 bound mass) (λ (choice : Weighed). (choice.0, value choice.1)) (chosen
          (defence west history) moves)
          (chosen_each (λ move. IsAtLeast (value move) bound mass) (defence west history) moves
          (each_in (λ move. IsAtLeast (value move) bound mass) moves each))))

      pays_on : Pays history
      pays_on = elim (cases_Bool (is_declarer_turn (after question history).trick)) [
        | inl own ↦ pays_declarer own
        | inr theirs ↦ pays_defence theirs
      ]

  pays_within : (n : ℕ) (proper : IsProperPlan question plan) (history : History) → IsPlay question west history
      → room question (after question history) ≤ n → Pays history
  pays_within zero proper history play fits = elim (cases_Bool (is_decided question (after question history))) [
    | inl decided ↦ pays_decided proper history play decided
    | inr undecided ↦
        absurd (true≢false (sym (ended_with_no_room question (after question history) fits)
        ∙ (is_on question west history play undecided).goes))
  ]
  pays_within (suc n) proper history play fits = elim (cases_Bool (is_decided question (after question history))) [
    | inl decided ↦ pays_decided proper history play decided
    | inr undecided ↦
        pays_on proper history play (is_on question west history play undecided)
        (λ move found. pays_within n proper (history ++ move ∷ []) (play_more question west history move play found)
        (room_after_move question west history move n found fits))
  ]

-- after each legal history, under each layout, and whatever the defenders do
pub plans_pay : (question : Question) (plan : Plan) (defence : DefenceWay) (west : Cards) (history : History)
    → IsProperPlan question plan → IsPlay question west history
    → IsAtLeast (pay question (plan_way question plan) defence west history)
    (counted (worth (reply_to_plan question plan (counts_of (hands_of question) west)) (merged
    (hands_of question) history)))
    (counted (plan_mass question plan (merged (hands_of question) history)))
plans_pay question plan defence west history proper play =
    pays_within question plan defence west (room question (after question history)) proper history play (omega arith)
