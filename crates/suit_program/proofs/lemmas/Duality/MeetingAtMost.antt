-- What a plan and a defence earn when they meet is at most what the defence lets declarer earn at most (`most_met`).
use Rattle.std.proofs.Common.{◌≡◌, ℕ, zero, suc, ◌-◌, true, false, List, [], ◌∷◌, ◌++◌, length, map, refl, sym, ap}
use Rattle.std.proofs.Common.{◌∙◌, subst, arith}
use Rattle.std.specs.Prelude.{Contains, ℤ, pos, ◌*ℤ◌, ◌≤ℤ◌, if◌then◌else◌}
use Rattle.std.specs.Int.Signed.{≤ℤ_refl}
use Rattle.std.proofs.lemmas.List.{length-append}
use Rattle.std.proofs.Math.IntN.{*ℤ_comm}
use Rattle.suit_lists.proofs.Maps.{Contains-map, map_same}
use Rattle.suit_cards.specs.Cards.{ClassLayout}
use Rattle.suit_num.proofs.IntegerLaws.{le-mul_right, mul_left_comm}
use Rattle.suit_game.specs.declared.question.Question.{Question}
use Rattle.suit_game.specs.Validity.{IsValid}
use Rattle.suit_game.specs.declared.limits.TheConstants.{MOST_MOVES}
use Rattle.suit_classes.specs.declared.class_moves.ClassMove.{ClassMove}
use Rattle.suit_classes.specs.WhatIsAllowed.{is_among}
use Rattle.suit_classes.specs.ClassPlaces.{class_after, class_decided, class_moves, class_payoff, class_turn}
use Rattle.suit_plans.specs.declared.plan.Plan.{Plan}
use Rattle.suit_plans.specs.declared.defence.Defence.{Defence}
use Rattle.suit_plans.specs.BestReplies.{Reply, allowing_layouts, most, public_moves, reply_to_defence, worth}
use Rattle.suit_plans.specs.Masses.{declarer, defence_mass, is_declarers, plan_mass}
use Rattle.suit_plans.specs.PlanLaws.{AreRealised}
use Rattle.suit_plans.specs.Properness.{IsProperPlan, some_allows, sum_of}
use Rattle.suit_plans.proofs.RepliesAreBounded.{allowing_none, first_mass, some_allow_none}
use Rattle.suit_plans.proofs.DefenceWorths.{defences_at_declarers, defences_at_defences}
use Rattle.suit_plans.proofs.MassSteps.{mass_kept}
use Rattle.suit_plans.proofs.NumberSums.{sum_kept, sum_times, sums_exchanged}
use Rattle.suit_plans.proofs.ProperPlans.{plans_are_realised}
use Rattle.suit_plans.proofs.PublicMoves.{allowing_parts, going_with, held_moves, own_moves_on, public_allowed}
use Rattle.suit_plans.proofs.PublicMoves.{public_over, public_short, some_layout}
use Rattle.suit_plans.proofs.WhoseTurns.{Declarers, Defences, Over, WhoseTurn, whose_turn}
use Rattle.suit_plans.proofs.WorthsAtTurns.{ended_worth, left_after}
use Rattle.suit_program.specs.Duality.{meeting, meets}
use Rattle.suit_program.proofs.lemmas.Duality.MeetingByTurns.{met_on, met_over}
use Rattle.suit_program.proofs.lemmas.Programs.SumsInOrder.{le_trans, sum_le}

module _ (question : Question) (plan : Plan) (defence : Defence) (valid : IsValid question)
    (proper : IsProperPlan question plan) where
  abbrev to_defence : Reply
  to_defence = reply_to_defence question defence

  abbrev met_in : List ClassMove → ClassLayout × ℕ → ℤ
  met_in history layout = worth (meeting question plan defence layout.0) history

  -- what they earn in all class layouts that allow a history
  abbrev met_in_all : List ClassMove → ℤ
  met_in_all history = sum_of (map (met_in history) (allowing_layouts question history))

  abbrev mass : List ClassMove → ℤ
  mass history = plan_mass question plan history

  abbrev part : List ClassMove → ClassMove → ClassLayout × ℕ → ℤ
  part history move layout = if is_among (class_moves (class_after question history) layout.0) move
      then met_in (history ++ move ∷ []) layout else pos 0

  goes_on : (history : List ClassMove) (move : ClassMove)
      → met_in_all (history ++ move ∷ []) ≡ sum_of (map (part history move) (allowing_layouts question history))
  goes_on history move =
      ap (λ (l : List (ClassLayout × ℕ)). sum_of (map (met_in (history ++ move ∷ [])) l))
      (sym (going_with question valid history move))
      ∙ sum_kept (λ (layout : ClassLayout × ℕ). is_among (class_moves (class_after question history) layout.0) move)
      (met_in (history ++ move ∷ [])) (allowing_layouts question history)

  one_shared : (history : List ClassMove) (layout : ClassLayout × ℕ)
      → Contains (allowing_layouts question history) layout
      → class_decided (class_after question history) ≡ false
      → sum_of (map (λ move. part history move layout) (public_moves question history)) ≡ met_in history layout
  one_shared history layout held going =
      let next : ClassMove → ℤ = λ move. met_in (history ++ move ∷ []) layout in
      sym (sum_kept (is_among (class_moves (class_after question history) layout.0)) next
      (public_moves question history))
      ∙ ap (λ (l : List ClassMove). sum_of (map next l)) (held_moves question valid history going layout held)
      ∙ sym (met_on question plan defence layout.0 history (allowing_parts question valid history layout held).1 going)

  -- the moves with which a history goes on for declarer share out what they earn
  met_shared : (history : List ClassMove) → class_decided (class_after question history) ≡ false
      → met_in_all history ≡ sum_of (map (λ move. met_in_all (history ++ move ∷ [])) (public_moves question history))
  met_shared history going =
      let moves : List ClassMove = public_moves question history in
      let layouts : List (ClassLayout × ℕ) = allowing_layouts question history in
      sym (ap sum_of (map_same (λ move. met_in_all (history ++ move ∷ []))
      (λ move. sum_of (map (part history move) layouts)) moves (λ move found. goes_on history move))
      ∙ sums_exchanged (part history) moves layouts
      ∙ ap sum_of (map_same (λ layout. sum_of (map (λ move. part history move layout) moves)) (met_in history) layouts
      (λ layout held. one_shared history layout held going)))

  realised : (west : ClassLayout) → AreRealised question (declarer plan.den plan.rows) west
  realised west = plans_are_realised question plan west valid proper

  mass_positive : (history : List ClassMove) → some_allows question history ≡ true → pos 0 ≤ℤ mass history
  unfolding plan_mass
  mass_positive history some =
      let layout = some_layout question valid history some in
      (realised layout.0.0).positive history (allowing_parts question valid history layout.0 layout.1).1

  mass_shared : (history : List ClassMove) → some_allows question history ≡ true
      → class_decided (class_after question history) ≡ false
      → is_declarers (class_turn (class_after question history)) ≡ true
      → sum_of (map (λ move. mass (history ++ move ∷ [])) (public_moves question history)) ≡ mass history
  unfolding plan_mass
  mass_shared history some going own =
      let layout = some_layout question valid history some in
      let allows = (allowing_parts question valid history layout.0 layout.1).1 in
      ap (λ (l : List ClassMove). sum_of (map (λ move. plan_mass question plan (history ++ move ∷ [])) l))
      (own_moves_on question valid history going layout.0 layout.1 own)
      ∙ (realised layout.0.0).shared history allows own

  kept : (history : List ClassMove) (move : ClassMove)
      → is_declarers (class_turn (class_after question history)) ≡ false
      → mass (history ++ move ∷ []) ≡ mass history
  unfolding plan_mass
  kept history move not_own = mass_kept question (declarer plan.den plan.rows) history move not_own

  -- what they earn is at most the most of a history, for the mass of the plan there
  abbrev IsMet : List ClassMove → Type 0
  IsMet history = met_in_all history ≤ℤ (worth to_defence history *ℤ mass history)

  abbrev next_met : List ClassMove → Type 0
  next_met history = (move : ClassMove) → Contains (public_moves question history) move → IsMet (history ++ move ∷ [])

  earned_met : (history : List ClassMove) → class_decided (class_after question history) ≡ true
      → met_in_all history ≡ worth to_defence history *ℤ mass history
  earned_met history decided =
      let layouts : List (ClassLayout × ℕ) = allowing_layouts question history in
      let payoff : ℤ = pos (class_payoff (class_after question history)) in
      let held : ClassLayout × ℕ → ℤ = λ layout. payoff *ℤ defence_mass question defence layout.0 history in
      let same : (layout : ClassLayout × ℕ) → met_in history layout ≡ mass history *ℤ held layout =
      λ layout. met_over question plan defence layout.0 history decided
      ∙ mul_left_comm payoff (mass history) (defence_mass question defence layout.0 history) in
      ap sum_of (map_same (met_in history) (λ layout. mass history *ℤ held layout) layouts (λ layout found. same
      layout))
      ∙ sym (sum_times (mass history) held layouts)
      ∙ *ℤ_comm (mass history) (sum_of (map held layouts))
      ∙ ap (λ (z : ℤ). z *ℤ mass history) (sym (ended_worth to_defence (MOST_MOVES - length history) history
      (public_over question valid history decided)))

  turn_met : (history : List ClassMove) → some_allows question history ≡ true → next_met history
      → WhoseTurn (class_after question history) → IsMet history
  turn_met history some next (Over decided turn) =
      subst (λ (z : ℤ). met_in_all history ≤ℤ z) (earned_met history decided) (≤ℤ_refl (met_in_all history))
  turn_met history some next (Declarers going own not_theirs) =
      let moves : List ClassMove = public_moves question history in
      let here : ℤ = worth to_defence history in
      let later : ClassMove → ℤ = λ move. mass (history ++ move ∷ []) in
      let right : here *ℤ mass history ≡ sum_of (map (λ move. here *ℤ later move) moves) =
      ap (λ (z : ℤ). here *ℤ z) (sym (mass_shared history some going own)) ∙ sum_times here later moves in
      let most = defences_at_declarers question defence history valid some own in
      subst (λ (z : ℤ). z ≤ℤ (here *ℤ mass history)) (sym (met_shared history going))
      (subst (λ (z : ℤ). sum_of (map (λ move. met_in_all (history ++ move ∷ [])) moves) ≤ℤ z) (sym right)
      (sum_le (λ move. met_in_all (history ++ move ∷ [])) (λ move. here *ℤ later move) moves
      (λ move found. le_trans (met_in_all (history ++ move ∷ []))
      (worth to_defence (history ++ move ∷ []) *ℤ later move) (here *ℤ later move) (next move found)
      (le-mul_right (worth to_defence (history ++ move ∷ [])) here (later move)
      (most.most (worth to_defence (history ++ move ∷ []))
      (Contains-map (λ other. worth to_defence (history ++ other ∷ [])) moves move found))
      (mass_positive (history ++ move ∷ []) (public_allowed question valid history move found))))))
  turn_met history some next (Defences going not_own theirs) =
      let moves : List ClassMove = public_moves question history in
      let here : ClassMove → ℤ = λ move. worth to_defence (history ++ move ∷ []) in
      let right : worth to_defence history *ℤ mass history ≡ sum_of (map (λ move. mass history *ℤ here move) moves) =
      ap (λ (z : ℤ). z *ℤ mass history) (defences_at_defences question defence history valid some theirs)
      ∙ *ℤ_comm (sum_of (map here moves)) (mass history) ∙ sum_times (mass history) here moves in
      subst (λ (z : ℤ). z ≤ℤ (worth to_defence history *ℤ mass history)) (sym (met_shared history going))
      (subst (λ (z : ℤ). sum_of (map (λ move. met_in_all (history ++ move ∷ [])) moves) ≤ℤ z) (sym right)
      (sum_le (λ move. met_in_all (history ++ move ∷ [])) (λ move. mass history *ℤ here move) moves
      (λ move found. subst (λ (z : ℤ). met_in_all (history ++ move ∷ []) ≤ℤ z)
      (*ℤ_comm (here move) (mass (history ++ move ∷ []))
      ∙ ap (λ (z : ℤ). z *ℤ here move) (kept history move not_own)) (next move found))))

  met_from : (more : ℕ) (history : List ClassMove) → some_allows question history ≡ true
      → more ≡ MOST_MOVES - length history
      → IsMet history
  met_from zero history some left =
      turn_met history some
      (λ move found. absurd (omega (
        arith,
        left,
        public_short question valid history move found,
        length-append history (move ∷ []),
      )))
      (whose_turn (class_after question history))
  met_from (suc more) history some left =
      turn_met history some
      (λ move found. met_from more (history ++ move ∷ []) (public_allowed question valid history move found)
      (left_after history move more left))
      (whose_turn (class_after question history))

pub most_met : (question : Question) (plan : Plan) (defence : Defence) → IsValid question
    → IsProperPlan question plan → meets question plan defence ≤ℤ (most question defence *ℤ plan.den)
unfolding most meets
most_met question plan defence valid proper =
    let met : ClassLayout × ℕ → ℤ = λ layout. worth (meeting question plan defence layout.0) [] in
    subst (λ (l : List (ClassLayout × ℕ)). sum_of (map met l) ≤ℤ
    (worth (reply_to_defence question defence) [] *ℤ plan.den))
    (allowing_none question)
    (subst (λ (z : ℤ). sum_of (map met (allowing_layouts question [])) ≤ℤ (worth (reply_to_defence question defence) []
    *ℤ z)) (first_mass question plan)
    (met_from question plan defence valid proper MOST_MOVES [] (some_allow_none question valid) refl))
