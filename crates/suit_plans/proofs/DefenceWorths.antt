-- What class histories are worth to the reply to a defence, at each turn and within which bounds (`defences_paid`).
use Rattle.std.proofs.Common.{◌≡◌, ℕ, zero, suc, ◌-◌, ◌<◌, Bool, true, false, List, [], ◌∷◌, ◌++◌, length, map, refl}
use Rattle.std.proofs.Common.{sym, ap, ◌∙◌, subst, arith}
use Rattle.std.specs.Prelude.{Contains, filter, if◌then◌else◌, ℤ, pos, ◌*ℤ◌, ◌≤ℤ◌}
use Rattle.std.proofs.lemmas.List.{length-append}
use Rattle.suit_lists.proofs.Elements.{Contains-first, Contains-same}
use Rattle.suit_lists.proofs.Firsts.{HasFirst, HasFirst-map}
use Rattle.suit_lists.proofs.Maps.{map_same}
use Rattle.suit_cards.specs.Cards.{ClassLayout}
use Rattle.suit_game.specs.declared.question.Question.{Question}
use Rattle.suit_game.specs.Validity.{IsValid}
use Rattle.suit_classes.specs.declared.class_moves.ClassMove.{ClassMove}
use Rattle.suit_classes.specs.WhatIsAllowed.{every_move, is_among}
use Rattle.suit_classes.specs.ClassPlaces.{class_after, class_decided, class_moves, class_payoff, class_turn}
use Rattle.suit_plans.specs.declared.defence.Defence.{Defence}
use Rattle.suit_plans.specs.BestReplies.{Reply, allowing_layouts, public_moves, reply_to_defence, worth}
use Rattle.suit_plans.specs.Masses.{defence_mass, defenders, is_declarers, is_defences}
use Rattle.suit_plans.specs.PlanLaws.{AreRealised}
use Rattle.suit_plans.specs.Properness.{IsProperDefence, some_allows, sum_of}
use Rattle.suit_plans.specs.ReplyLaws.{DefencesArePaid, DefencesAtDecided, DefencesAtDeclarers, DefencesAtDefences}
use Rattle.suit_plans.specs.ReplyLaws.{IsMostOf, IsPaid, NoMassesAreWorthNothing, masses_of, worths_with}
use Rattle.suit_plans.proofs.MassSteps.{mass_kept}
use Rattle.suit_plans.proofs.NumberSums.{sum_kept, sum_nothing, sum_times, sums_exchanged}
use Rattle.suit_plans.proofs.AtMostThirteenTricks.{none_paid, one_paid, paid_most, product_paid, sum_paid}
use Rattle.suit_plans.proofs.ProperDefences.{defences_are_realised as defences_realised}
use Rattle.suit_plans.proofs.PublicMoves.{allowing_parts, going_with, held_moves, layout_weighs, own_allows}
use Rattle.suit_plans.proofs.PublicMoves.{public_allowed, public_short, some_layout, some_public}
use Rattle.suit_plans.proofs.WhoseTurns.{Declarers, Defences, Over, WhoseTurn, own_turn, their_turn, whose_turn}
use Rattle.suit_plans.proofs.WorthsAtTurns.{best_turn, ended_worth, left_after, most_of, summed_turn}
use Rattle.suit_game.specs.declared.limits.TheConstants.{MOST_MOVES}
use Rattle.suit_classes.specs.ClassMoves.{ClassHistory}

-- where play is decided, the payoff for the masses that came
pub defences_at_decided : DefencesAtDecided
defences_at_decided question defence history decided =
    ended_worth (reply_to_defence question defence) (MOST_MOVES - length history) history
    (ap (λ (b : Bool). if b then []
    else filter (λ move. some_allows question (history ++ move ∷ [])) every_move) decided)
    ∙ sym (sum_times (pos (class_payoff (class_after question history)))
    (λ (layout : ClassLayout × ℕ). defence_mass question defence layout.0 history)
    (allowing_layouts question history))

module _ (question : Question) (defence : Defence) (valid : IsValid question) where
  abbrev reply : Reply
  reply = reply_to_defence question defence

  module _ (history : ClassHistory) (some : some_allows question history
      ≡ true) (going : class_decided (class_after question history) ≡ false) where
    some_there : HasFirst (public_moves question history)
    some_there = let layout = some_layout question valid history some in
        some_public question valid history going layout.0 layout.1

    -- there is room for a move
    pub room : length history < MOST_MOVES
    room =
        let first : ClassMove = some_there.first in
        let found : Contains (public_moves question history) first =
        Contains-same first (sym some_there.parts)
        (Contains-first first some_there.more) in
        omega (arith, public_short question valid history first found, length-append history (first ∷ []))

    summed : is_declarers (class_turn (class_after question history)) ≡ false
        → worth reply history ≡ sum_of (worths_with reply history (public_moves question history))
    summed not_own = summed_turn reply history room some_there not_own

    most : is_declarers (class_turn (class_after question history)) ≡ true
        → IsMostOf (worths_with reply history (public_moves question history)) (worth reply history)
    most own =
        let worths = worths_with reply history (public_moves question history) in
        subst (IsMostOf worths) (sym (best_turn reply history room some_there own))
        (most_of worths (HasFirst-map (λ move. worth reply (history ++ move ∷ [])) (public_moves question history)
        some_there))

pub defences_at_declarers : DefencesAtDeclarers
defences_at_declarers question defence history valid some own =
    most question defence valid history some (own_turn (class_after question history) own).0 own

pub defences_at_defences : DefencesAtDefences
defences_at_defences question defence history valid some theirs =
    let turn = their_turn (class_after question history) theirs in
    summed question defence valid history some turn.0 turn.1

module _ (question : Question) (defence : Defence) (valid : IsValid question)
    (proper : IsProperDefence question defence) where
  abbrev to_defence : Reply
  to_defence = reply_to_defence question defence

  -- the mass in one class layout, and in all that allow a history
  abbrev mass_at : ClassHistory → ClassLayout × ℕ → ℤ
  mass_at history layout = defence_mass question defence layout.0 history

  abbrev mass_in_all : ClassHistory → ℤ
  mass_in_all history = sum_of (masses_of question defence history)

  realised : (history : ClassHistory) (layout : ClassLayout × ℕ) → Contains (allowing_layouts question history) layout
      → AreRealised question (defenders question defence.den defence.rows layout.0) layout.0
  realised history layout held =
      defences_realised question defence layout.0 valid proper
      (layout_weighs question valid layout (allowing_parts question valid history layout held).0)

  pub mass_positive : (history : ClassHistory) (layout : ClassLayout × ℕ)
      → Contains (allowing_layouts question history) layout → pos 0 ≤ℤ mass_at history layout
  unfolding defence_mass
  mass_positive history layout held =
      (realised history layout held).positive history (allowing_parts question valid history layout held).1

  earned_paid : (history : ClassHistory) → some_allows question history ≡ true
      → IsPaid (mass_in_all history) (to_defence.earned history)
  earned_paid history some =
      let payoff : ℕ = class_payoff (class_after question history) in
      sum_paid (λ (layout : ClassLayout × ℕ). pos payoff *ℤ mass_at history layout) (mass_at history)
      (allowing_layouts question history)
      (λ layout held. product_paid payoff (mass_at history layout)
      (paid_most question layout.0 history (allowing_parts question valid history layout held).1)
      (mass_positive history layout held))

  -- what goes on with a move, over all class layouts that allow the history before it
  abbrev part : ClassHistory → ClassMove → ClassLayout × ℕ → ℤ
  part history move layout = if is_among (class_moves (class_after question history) layout.0) move
      then mass_at (history ++ move ∷ []) layout else pos 0

  goes_on : (history : ClassHistory) (move : ClassMove)
      → mass_in_all (history ++ move ∷ []) ≡ sum_of (map (part history move) (allowing_layouts question history))
  goes_on history move =
      ap (λ (l : List (ClassLayout × ℕ)). sum_of (map (mass_at (history ++ move ∷ [])) l))
      (sym (going_with question valid history move))
      ∙ sum_kept (λ (layout : ClassLayout × ℕ). is_among (class_moves (class_after question history) layout.0) move)
      (mass_at (history ++ move ∷ [])) (allowing_layouts question history)

  -- at a turn of a defender's the mass of each class layout goes on with its class moves
  one_shared : (history : ClassHistory) (layout : ClassLayout × ℕ) → Contains (allowing_layouts question history) layout
      → class_decided (class_after question history) ≡ false
      → is_defences (class_turn (class_after question history)) ≡ true
      → sum_of (map (λ move. part history move layout) (public_moves question history)) ≡ mass_at history layout
  unfolding defence_mass
  one_shared history layout held going theirs =
      let next : ClassMove → ℤ = λ move. mass_at (history ++ move ∷ []) layout in
      sym (sum_kept (is_among (class_moves (class_after question history) layout.0)) next
      (public_moves question history))
      ∙ ap (λ (l : List ClassMove). sum_of (map next l)) (held_moves question valid history going layout held)
      ∙ (realised history layout held).shared history (allowing_parts question valid history layout held).1 theirs

  -- so the moves share out the masses
  pub masses_shared : (history : ClassHistory) → class_decided (class_after question history) ≡ false
      → is_defences (class_turn (class_after question history)) ≡ true
      → sum_of (map (λ move. mass_in_all (history ++ move ∷ [])) (public_moves question history)) ≡ mass_in_all history
  masses_shared history going theirs =
      let moves : List ClassMove = public_moves question history in
      let layouts : List (ClassLayout × ℕ) = allowing_layouts question history in
      ap sum_of (map_same (λ move. mass_in_all (history ++ move ∷ []))
      (λ move. sum_of (map (part history move) layouts)) moves (λ move found. goes_on history move))
      ∙ sums_exchanged (part history) moves layouts
      ∙ ap sum_of (map_same (λ layout. sum_of (map (λ move. part history move layout) moves)) (mass_at history) layouts
      (λ layout held. one_shared history layout held going theirs))

  -- a move of declarer's keeps them
  pub masses_kept : (history : ClassHistory) (move : ClassMove)
      → is_declarers (class_turn (class_after question history)) ≡ true
      → is_defences (class_turn (class_after question history)) ≡ false → Contains (public_moves question history) move
      → mass_in_all (history ++ move ∷ []) ≡ mass_in_all history
  unfolding defence_mass
  masses_kept history move own not_theirs found =
      ap (λ (l : List (ClassLayout × ℕ)). sum_of (map (mass_at (history ++ move ∷ [])) l))
      (own_allows question valid history move own found)
      ∙ ap sum_of (map_same (mass_at (history ++ move ∷ [])) (mass_at history) (allowing_layouts question history)
      (λ layout held. mass_kept question (defenders question defence.den defence.rows layout.0) history move
      not_theirs))

  turn_paid : (history : ClassHistory) → some_allows question history ≡ true
      → ((move : ClassMove) → Contains (public_moves question history) move
      → IsPaid (mass_in_all (history ++ move ∷ [])) (worth to_defence (history ++ move ∷ [])))
      → WhoseTurn (class_after question history) → IsPaid (mass_in_all history) (worth to_defence history)
  turn_paid history some paid (Over decided turn) =
      subst (IsPaid (mass_in_all history))
      (sym (sum_times (pos (class_payoff (class_after question history))) (mass_at history)
      (allowing_layouts question history))
      ∙ sym (defences_at_decided question defence history decided)) (earned_paid history some)
  turn_paid history some paid (Declarers going own not_theirs) =
      one_paid (mass_in_all history) (λ move. worth to_defence (history ++ move ∷ [])) (public_moves question history)
      (worth to_defence history)
      (most question defence valid history some going own).attained
      (λ move found. subst (λ (mass : ℤ). IsPaid mass (worth to_defence (history ++ move ∷ [])))
      (masses_kept history move own not_theirs found) (paid move found))
  turn_paid history some paid (Defences going not_own theirs) =
      let sum : ℤ = sum_of (worths_with to_defence history (public_moves question history)) in
      subst (IsPaid (mass_in_all history)) (sym (summed question defence valid history some going not_own))
      (subst (λ (mass : ℤ). IsPaid mass sum) (masses_shared history going theirs)
      (sum_paid (λ move. worth to_defence (history ++ move ∷ [])) (λ move. mass_in_all (history ++ move ∷ []))
      (public_moves question history) paid))

  paid_from : (more : ℕ) (history : ClassHistory) → some_allows question history ≡ true → more ≡ MOST_MOVES - length history
      → IsPaid (mass_in_all history) (worth to_defence history)
  paid_from zero history some left =
      turn_paid history some
      (λ move found. absurd (omega (
        arith,
        left,
        public_short question valid history move found,
        length-append history (move ∷ []),
      )))
      (whose_turn (class_after question history))
  paid_from (suc more) history some left =
      turn_paid history some
      (λ move found. paid_from more (history ++ move ∷ []) (public_allowed question valid history move found)
      (left_after history move more left))
      (whose_turn (class_after question history))

-- against a proper defence each class history that is allowed is worth no more than thirteen tricks of its masses
pub defences_paid : DefencesArePaid
defences_paid question defence history valid proper some =
    paid_from question defence valid proper (MOST_MOVES - length history) history some refl

pub no_masses_no_worth : NoMassesAreWorthNothing
no_masses_no_worth question defence history valid proper some none =
    none_paid (sum_of (masses_of question defence history)) (worth (reply_to_defence question defence) history)
    (defences_paid question defence history valid proper some)
    (sum_nothing (λ (layout : ClassLayout × ℕ). defence_mass question defence layout.0 history)
    (allowing_layouts question history) none)
