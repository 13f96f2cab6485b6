-- What a plan and a defence earn when they meet is at least what the plan earns at least (`least_met`).
use Rattle.std.proofs.Common.{◌≡◌, ℕ, zero, suc, ◌-◌, true, false, List, [], ◌∷◌, ◌++◌, length, map, refl, sym, ap}
use Rattle.std.proofs.Common.{◌∙◌, subst, arith}
use Rattle.std.specs.Prelude.{Contains, ℤ, pos, ◌*ℤ◌, ◌≤ℤ◌}
use Rattle.std.specs.Int.Signed.{≤ℤ_refl}
use Rattle.std.proofs.lemmas.List.{length-append}
use Rattle.std.proofs.Math.IntN.{*ℤ_comm}
use Rattle.suit_lists.proofs.Maps.{Contains-map, map_same}
use Rattle.suit_cards.specs.Cards.{ClassLayout}
use Rattle.suit_num.proofs.IntegerLaws.{le-mul_right, mul_assoc}
use Rattle.suit_game.specs.declared.question.Question.{Question}
use Rattle.suit_game.specs.Validity.{IsValid}
use Rattle.suit_game.specs.declared.limits.TheConstants.{MOST_MOVES}
use Rattle.suit_classes.specs.declared.class_moves.ClassMove.{ClassMove}
use Rattle.suit_classes.specs.ClassGame.{Allows}
use Rattle.suit_classes.specs.ClassPlaces.{class_after, class_moves, class_payoff, class_turn}
use Rattle.suit_classes.proofs.AllowedMoveByMove.{allowed_moves}
use Rattle.suit_classes.proofs.DecidedStaysDecided.{class_histories_are_short}
use Rattle.suit_plans.specs.declared.plan.Plan.{Plan}
use Rattle.suit_plans.specs.declared.defence.Defence.{Defence}
use Rattle.suit_plans.specs.BestReplies.{Reply, least, reply_to_plan, worth}
use Rattle.suit_plans.specs.Masses.{defence_mass, defenders, is_defences, plan_mass, weight_of}
use Rattle.suit_plans.specs.PlanLaws.{AreRealised}
use Rattle.suit_plans.specs.Properness.{IsProperDefence, sum_of}
use Rattle.suit_plans.proofs.AllowedSoFar.{start_allows}
use Rattle.suit_plans.proofs.RepliesAreBounded.{first_mass_in, weight_listed}
use Rattle.suit_plans.proofs.NumberSums.{sum_times}
use Rattle.suit_plans.proofs.PlanWorths.{plans_at_decided, plans_at_declarers, plans_at_defences}
use Rattle.suit_plans.proofs.ProperDefences.{defences_are_realised}
use Rattle.suit_plans.proofs.PublicMoves.{layout_weighs}
use Rattle.suit_plans.proofs.WhoseTurns.{Declarers, Defences, Over, WhoseTurn, whose_turn}
use Rattle.suit_plans.proofs.WorthsAtTurns.{left_after}
use Rattle.suit_program.specs.Duality.{meeting, meets}
use Rattle.suit_program.specs.Supports.{layouts_of}
use Rattle.suit_program.proofs.lemmas.Duality.MeetingByTurns.{met_on, met_over}
use Rattle.suit_program.proofs.lemmas.Programs.SumsInOrder.{le_trans, sum_le}

module _ (question : Question) (plan : Plan) (defence : Defence) (west : ClassLayout)
    (realised : AreRealised question (defenders question defence.den defence.rows west) west) where
  abbrev to_plan : Reply
  to_plan = reply_to_plan question plan west

  abbrev met : Reply
  met = meeting question plan defence west

  abbrev legal : List ClassMove → List ClassMove
  legal history = class_moves (class_after question history) west

  abbrev mass : List ClassMove → ℤ
  mass history = defence_mass question defence west history

  mass_positive : (history : List ClassMove) → Allows question west history → pos 0 ≤ℤ mass history
  unfolding defence_mass
  mass_positive history allows = realised.positive history allows

  mass_shared : (history : List ClassMove) → Allows question west history
      → is_defences (class_turn (class_after question history)) ≡ true
      → sum_of (map (λ move. mass (history ++ move ∷ [])) (legal history)) ≡ mass history
  unfolding defence_mass
  mass_shared history allows theirs = realised.shared history allows theirs

  mass_kept : (history : List ClassMove) (move : ClassMove)
      → is_defences (class_turn (class_after question history)) ≡ false
      → mass (history ++ move ∷ []) ≡ mass history
  unfolding defence_mass
  mass_kept history move own = realised.kept history move own

  -- the least of a history, for the mass of the defence there, is at most what they earn
  abbrev IsMet : List ClassMove → Type 0
  IsMet history = (worth to_plan history *ℤ mass history) ≤ℤ worth met history

  abbrev next_met : List ClassMove → Type 0
  next_met history = (move : ClassMove) → Contains (legal history) move → IsMet (history ++ move ∷ [])

  times_sum : (f : ClassMove → ℤ) (moves : List ClassMove) (k : ℤ)
      → sum_of (map f moves) *ℤ k ≡ sum_of (map (λ move. f move *ℤ k) moves)
  times_sum f moves k =
      *ℤ_comm (sum_of (map f moves)) k ∙ sum_times k f moves
      ∙ ap sum_of (map_same (λ move. k *ℤ f move) (λ move. f move *ℤ k) moves (λ move found. *ℤ_comm k (f move)))

  turn_met : (history : List ClassMove) → Allows question west history → next_met history
      → WhoseTurn (class_after question history) → IsMet history
  turn_met history allows next (Over decided turn) =
      let payoff : ℤ = pos (class_payoff (class_after question history)) in
      let same : worth to_plan history *ℤ mass history ≡ worth met history =
      ap (λ (z : ℤ). z *ℤ mass history) (plans_at_decided question plan west history decided)
      ∙ mul_assoc payoff (plan_mass question plan history) (mass history)
      ∙ sym (met_over question plan defence west history decided) in
      subst (λ (z : ℤ). (worth to_plan history *ℤ mass history) ≤ℤ z) same (≤ℤ_refl (worth to_plan history *ℤ mass
      history))
  turn_met history allows next (Declarers going own not_theirs) =
      let moves : List ClassMove = legal history in
      let here : ClassMove → ℤ = λ move. worth to_plan (history ++ move ∷ []) in
      let left : worth to_plan history *ℤ mass history ≡ sum_of (map (λ move. here move *ℤ mass history) moves) =
      ap (λ (z : ℤ). z *ℤ mass history) (plans_at_declarers question plan west history allows own)
      ∙ times_sum here moves (mass history) in
      subst (λ (z : ℤ). z ≤ℤ worth met history) (sym left)
      (subst (λ (z : ℤ). sum_of (map (λ move. here move *ℤ mass history) moves) ≤ℤ z)
      (sym (met_on question plan defence west history allows going))
      (sum_le (λ move. here move *ℤ mass history) (λ move. worth met (history ++ move ∷ [])) moves
      (λ move found. subst (λ (z : ℤ). (here move *ℤ z) ≤ℤ worth met (history ++ move ∷ []))
      (mass_kept history move not_theirs) (next move found))))
  turn_met history allows next (Defences going not_own theirs) =
      let moves : List ClassMove = legal history in
      let here : ℤ = worth to_plan history in
      let later : ClassMove → ℤ = λ move. mass (history ++ move ∷ []) in
      let left : here *ℤ mass history ≡ sum_of (map (λ move. here *ℤ later move) moves) =
      ap (λ (z : ℤ). here *ℤ z) (sym (mass_shared history allows theirs)) ∙ sum_times here later moves in
      let least = plans_at_defences question plan west history allows theirs in
      subst (λ (z : ℤ). z ≤ℤ worth met history) (sym left)
      (subst (λ (z : ℤ). sum_of (map (λ move. here *ℤ later move) moves) ≤ℤ z)
      (sym (met_on question plan defence west history allows going))
      (sum_le (λ move. here *ℤ later move) (λ move. worth met (history ++ move ∷ [])) moves
      (λ move found. le_trans (here *ℤ later move) (worth to_plan (history ++ move ∷ []) *ℤ later move)
      (worth met (history ++ move ∷ []))
      (le-mul_right here (worth to_plan (history ++ move ∷ [])) (later move)
      (least.least (worth to_plan (history ++ move ∷ []))
      (Contains-map (λ other. worth to_plan (history ++ other ∷ [])) moves move found))
      (mass_positive (history ++ move ∷ []) ((allowed_moves question west history move).1 (allows, found))))
      (next move found))))

  met_from : (more : ℕ) (history : List ClassMove) → Allows question west history → more ≡ MOST_MOVES - length history
      → IsMet history
  met_from zero history allows left =
      turn_met history allows (λ move found.
      let short = class_histories_are_short question west (history ++ move
      ∷ []) ((allowed_moves question west history move).1 (allows, found)) in
      absurd (omega (arith, left, short, length-append history (move ∷ []))))
      (whose_turn (class_after question history))
  met_from (suc more) history allows left =
      turn_met history allows
      (λ move found. met_from more (history ++ move ∷ []) ((allowed_moves question west history move).1 (
        allows,
        found,
      )) (left_after history move more left))
      (whose_turn (class_after question history))

-- in one class layout
one_met : (question : Question) (plan : Plan) (defence : Defence) (layout : ClassLayout × ℕ) → IsValid question
    → IsProperDefence question defence → Contains (layouts_of question) layout
    → ((pos layout.1 *ℤ worth (reply_to_plan question plan layout.0) []) *ℤ defence.den)
    ≤ℤ worth (meeting question plan defence layout.0) []
one_met question plan defence layout valid proper found =
    let weighs = layout_weighs question valid layout found in
    let value : ℤ = worth (reply_to_plan question plan layout.0) [] in
    let met : ℤ = worth (meeting question plan defence layout.0) [] in
    let weight : ℤ = pos (weight_of question layout.0) in
    let first : value *ℤ defence_mass question defence layout.0 [] ≡ (pos layout.1 *ℤ value) *ℤ defence.den =
    ap (λ (z : ℤ). value *ℤ z) (first_mass_in question defence layout.0)
    ∙ sym (mul_assoc value weight defence.den)
    ∙ ap (λ (z : ℤ). z *ℤ defence.den) (*ℤ_comm value weight
    ∙ ap (λ (n : ℕ). pos n *ℤ value) (sym (weight_listed question layout found))) in
    subst (λ (z : ℤ). z ≤ℤ met) first
    (met_from question plan defence layout.0 (defences_are_realised question defence layout.0 valid proper
    weighs) MOST_MOVES []
    (start_allows question layout.0 valid weighs) refl)

-- in all: the weights of the class layouts stand in the masses of the defence
pub least_met : (question : Question) (plan : Plan) (defence : Defence) → IsValid question
    → IsProperDefence question defence → (least question plan *ℤ defence.den) ≤ℤ meets question plan defence
unfolding least meets
least_met question plan defence valid proper =
    let earned : ClassLayout × ℕ → ℤ = λ layout. pos layout.1 *ℤ worth (reply_to_plan question plan layout.0) [] in
    let met : ClassLayout × ℕ → ℤ = λ layout. worth (meeting question plan defence layout.0) [] in
    let layouts : List (ClassLayout × ℕ) = layouts_of question in
    let turned : sum_of (map earned layouts) *ℤ defence.den ≡ sum_of (map (λ layout. earned layout *ℤ defence.den)
    layouts) =
    *ℤ_comm (sum_of (map earned layouts)) defence.den ∙ sum_times defence.den earned layouts
    ∙ ap sum_of (map_same (λ layout. defence.den *ℤ earned layout) (λ layout. earned layout *ℤ defence.den) layouts
    (λ layout found. *ℤ_comm defence.den (earned layout))) in
    subst (λ (z : ℤ). z ≤ℤ sum_of (map met layouts)) (sym turned)
    (sum_le (λ layout. earned layout *ℤ defence.den) met layouts
    (λ layout found. one_met question plan defence layout valid proper found))
