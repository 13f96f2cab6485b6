-- Masses spread evenly over the layouts that are alike: what they pay together is no more than the most
-- (defences_spread).
use Rattle.std.proofs.Common.{◌≡◌, ℕ, zero, suc, ◌*◌, ◌/◌, ◌≤◌, ◌<◌, Bool, true, false, not, List, [], ◌∷◌, ◌++◌}
use Rattle.std.proofs.Common.{length, map, refl, sym, ap, ◌∙◌, subst, inl, inr, arith}
use Rattle.std.specs.Prelude.{Contains, bytes_eq, ℤ, pos, ◌*ℤ◌, ◌≤ℤ◌, if◌then◌else◌}
use Rattle.std.specs.Int.{int_max}
use Rattle.std.specs.List.{AllByRecursion, filter, sum_by}
use Rattle.std.proofs.Math.Nat.{mul-le-mul_left, mul-pos}
use Rattle.std.proofs.lemmas.Bool.{cases_Bool, true≢false}
use Rattle.std.proofs.lemmas.Slice.Eq.{bytes_eq-Decides}
use Rattle.suit_lists.proofs.Elements.{Contains-first, Contains-same, each_in, each_of}
use Rattle.suit_lists.proofs.Filters.{Contains-filter, kept_parts}
use Rattle.suit_lists.proofs.Firsts.{HasFirst}
use Rattle.suit_lists.proofs.Maps.{Contains-map}
use Rattle.suit_lists.proofs.Sums.{sum_by-mul, sum_by_constant, sum_by_same}
use Rattle.suit_cards.specs.Cards.{Cards, ClassLayout}
use Rattle.suit_cards.specs.Holdings.{holds}
use Rattle.suit_game.specs.declared.question.Question.{Question}
use Rattle.suit_game.specs.declared.moves.Move.{Move}
use Rattle.suit_game.specs.declared.moves.Move.TheVariants.{Follow, ShowOut}
use Rattle.suit_game.specs.Fractions.{Fraction, mean, total_weight, whole}
use Rattle.suit_game.specs.Gains.{is_declarer_turn, pay}
use Rattle.suit_game.specs.Histories.{History}
use Rattle.suit_game.specs.Layouts.{layouts}
use Rattle.suit_game.specs.Lengths.{room}
use Rattle.suit_game.specs.PlaceViews.{IsPlay}
use Rattle.suit_game.specs.Positions.{after, legal, payoff}
use Rattle.suit_game.specs.Strategies.{Way, Weighed, chosen, counted}
use Rattle.suit_game.specs.Validity.{IsValid}
use Rattle.suit_game.proofs.ChosenIsLegal.{chosen_from, chosen-weight}
use Rattle.suit_game.proofs.EnoughMoves.{ended_with_no_room, pay_where_on, room_after_move}
use Rattle.suit_game.proofs.PayDenominators.{pay-den}
use Rattle.suit_game.proofs.PlaceSeenAfterAMove.{play_more}
use Rattle.suit_classes.specs.declared.class_moves.ClassMove.{ClassMove}
use Rattle.suit_classes.specs.WhatIsAllowed.{allows, every_move, is_among}
use Rattle.suit_classes.specs.Classes.{Hands, hands_of, sizes_of}
use Rattle.suit_classes.specs.ClassGame.{counts_of, is_decided}
use Rattle.suit_classes.specs.ClassMoves.{merge, merged}
use Rattle.suit_classes.specs.ClassPlaces.{class_after, class_decided, class_moves, class_payoff}
use Rattle.suit_classes.proofs.ClassGameAgrees.{class_game_agrees}
use Rattle.suit_classes.proofs.AllowedMoveByMove.{each_once-Contains, merged-push}
use Rattle.suit_classes.proofs.SameMoves.{among_contained}
use Rattle.suit_layouts.specs.ClassLayouts.{class_layouts}
use Rattle.suit_plans.specs.BestReplies.{Reply, allowing_layouts, best_of, reply_to_defence, worth}
use Rattle.suit_plans.specs.declared.defence.Defence.{Defence}
use Rattle.suit_plans.specs.Masses.{defence_mass, defenders}
use Rattle.suit_plans.specs.Properness.{IsProperDefence, some_allows, sum_of as whole_sum}
use Rattle.suit_plans.proofs.MassSteps.{mass_kept}
use Rattle.suit_lift.specs.Lifts.{common, defence_way}
use Rattle.suit_lift.specs.Naming.{is_one_of, unplayed}
use Rattle.suit_lift.proofs.HowManyAreAlike.{alike_layouts}
use Rattle.suit_lift.proofs.CardsOfADefender.{every_card_move, legal_listed, their_left, unplayed_fits}
use Rattle.suit_lift.proofs.PayOfADecidedPlay.{decided_pay}
use Rattle.suit_lift.proofs.AfterADefendersCard.{weight_step, weights_some}
use Rattle.suit_lift.proofs.FractionSums.{IsNoMore, kept_sum, no_more_same, no_more_then, parts_of, sum_kept}
use Rattle.suit_lift.proofs.FractionSums.{sum_no_more, sum_of, sum_parts, sum_swapped, sum_times, term_no_more, times}
use Rattle.suit_lift.proofs.FractionSums.{times_no_more, times_sum}
use Rattle.suit_lift.proofs.LegalMoves.{declarers_legal}
use Rattle.suit_lift.proofs.LegalIsTold.{one_of_tells}
use Rattle.suit_lift.proofs.WeightsAreShares.{common_divided}
use Rattle.suit_lift.proofs.LayoutsStillLegal.{IsLive, alike_kept, alike_live, alike_some, counts_allow, counts_listed}
use Rattle.suit_lift.proofs.LayoutsStillLegal.{live_is, every_has, live_kept, live_later, live_layouts, some_allow}
use Rattle.suit_lift.proofs.MeanIsASum.{picked_mean, picked_weight, shares_mean}
use Rattle.suit_lift.proofs.LiftPaysItsWorth.{common_some}
use Rattle.suit_lift.proofs.WorthsAreNotNegative.{layout_positive, most_positive}
use Rattle.suit_lift.proofs.WorthAfterEachMove.{most_of, worth_none, worth_on}
use Rattle.suit_lift.proofs.SharesAreMasses.{counted_least, counted_mul, counted_total}
use Rattle.suit_lift.proofs.MeanOfShares.{valued}
use Rattle.suit_lift.proofs.BoundsAreDivided.{card_share, left, spread_sum, worth_among}
use Rattle.suit_lift.proofs.PlayGoesOn.{IsOn, is_on, view_after}

-- a number to divide by
abbrev at_least_one : ℕ → ℕ
at_least_one zero = 1
at_least_one (suc n) = suc n

one_some : (n : ℕ) → 0 < at_least_one n
one_some zero = omega arith
one_some (suc n) = omega arith

one_is : (n : ℕ) → 0 < n → at_least_one n ≡ n
one_is zero some = absurd (omega arith)
one_is (suc n) some = refl

one_more : (n : ℕ) → n ≤ at_least_one n
one_more zero = omega arith
one_more (suc n) = omega arith

either_some : (b : Bool) (here : Fraction) → 0 < here.den → 0 < (if b then here else whole 0).den
either_some true here some = some
either_some false here some = omega arith

-- no fractions are no more than any
pub nothing_more : (number : ℕ) → IsNoMore (whole 0) (whole number)
nothing_more number = record { here_some = omega arith; there_some = omega arith; least = omega arith }

module _ (question : Question) (declarer : Way) (defence : Defence) (valid : IsValid question)
    (proper : IsProperDefence question defence) where
  abbrev pub mass_of_layout : Cards → List ClassMove → ℕ
  mass_of_layout west line = counted (defence_mass question defence (counts_of (hands_of question) west) line)

  abbrev pub pay_at : History → Cards → Fraction
  pay_at history west = pay question declarer (defence_way question defence) west history

  -- the mass of a layout's class layout, divided among the layouts that are alike
  abbrev pub spread : History → Cards → Fraction
  spread history west =
      parts_of (mass_of_layout west (merged (hands_of question) history)) (length (alike_layouts question west
      (after question history).gone))

  abbrev pub term : History → Cards → Fraction
  term history west = times (spread history west) (pay_at history west)

  -- what the layouts pay together under which a history is legal
  abbrev pub all_at : History → Fraction
  all_at history = sum_of (term history) (live_layouts question history)

  abbrev pub most_at : List ClassMove → ℕ
  most_at line = counted (worth (reply_to_defence question defence) line)

  abbrev pub Holds : History → Type 0
  Holds history = IsNoMore (all_at history) (whole (most_at (merged (hands_of question) history)))

  pub term_some : (history : History) (west : Cards) → Contains (layouts question) west → 0 < (term history west).den
  term_some history west found =
      mul-pos (alike_some question west (after question history).gone found) (pay-den question declarer
      (defence_way question defence) west history)

  pub live_layout : (history : History) (west : Cards) → Contains (live_layouts question history) west
      → Contains (layouts question) west
  live_layout history west found = (live_is question west history valid found).play.layout

  pub live_terms : (history : History) → AllByRecursion (λ west. 0 < (term history west).den)
      (live_layouts question history)
  live_terms history =
      each_in (λ west. 0 < (term history west).den) (live_layouts question history)
      (λ west found. term_some history west (live_layout history west found))

  -- ---- where play is decided

  module _ (history : History) (decided : is_decided question (after question history) ≡ true) where
    abbrev won : ℕ
    won = payoff question.goal (after question history).won

    abbrev line_at : List ClassMove
    line_at = merged (hands_of question) history

    -- what a class layout earns, and how many live layouts have its counts
    abbrev earns : ClassLayout → ℕ
    earns counts = won * counted (defence_mass question defence counts line_at)

    abbrev same_counts : ClassLayout → Cards → Bool
    same_counts counts west = bytes_eq (counts_of (hands_of question) west) counts

    abbrev many : ClassLayout → ℕ
    many counts = length (filter (same_counts counts) (live_layouts question history))

    abbrev one_part : List ℕ × ℕ → Fraction
    one_part layout = parts_of (earns layout.0) (at_least_one (many layout.0))

    paid : (west : Cards) → Contains (live_layouts question history) west
        → IsNoMore (term history west) (sum_of
        (λ layout. if same_counts layout.0 west then one_part layout else whole 0) (allowing_layouts question line_at))
    paid west found =
        let live = live_is question west history valid found in
        let counts : ClassLayout = counts_of (hands_of question) west in
        let listed = counts_listed question west history live in
        let layout : List ℕ × ℕ = (counts, _) in
        let mass : ℕ = mass_of_layout west line_at in
        let alike : ℕ = length (alike_layouts question west (after question history).gone) in
        let some_alike : 0 < alike = alike_some question west (after question history).gone live.play.layout in
        let part : Fraction → Fraction = λ here. if same_counts counts west then here else whole 0 in
        let counted_many : many counts ≡ alike = ap length (sym (alike_live question west history live)) in
        let divisor : at_least_one (many counts) ≡ alike = ap at_least_one counted_many ∙ one_is alike some_alike in
        let most : IsNoMore (pay_at history west) (whole won) = record {
          here_some = pay-den question declarer (defence_way question defence) west history;
          there_some = omega arith;
          least = (decided_pay question declarer (defence_way question defence) west history live.play decided).1;
        } in
        let told : same_counts counts west ≡ true = (bytes_eq-Decides counts counts).1 refl in
        let here : IsNoMore (times (spread history west) (whole won)) (part (one_part layout)) =
        subst (λ (b : Bool). IsNoMore (times (spread history west) (whole won))
        (if b then one_part layout else whole 0)) (sym told)
        (no_more_same (times (spread history west) (whole won)) (one_part layout) (mul-pos some_alike (omega arith))
        (one_some (many counts))
        (rw divisor (omega arith))) in
        no_more_then (term history west) (times (spread history west) (whole won)) (sum_of
        (λ other. if same_counts other.0 west then one_part other else whole 0) (allowing_layouts question line_at))
        (times_no_more (spread history west) (pay_at history west) (whole won) some_alike most)
        (no_more_then (times (spread history west) (whole won)) (part (one_part layout)) (sum_of
        (λ other. if same_counts other.0 west then one_part other else whole 0)
        (allowing_layouts question line_at)) here
        (term_no_more (λ (other : List ℕ × ℕ). if same_counts other.0 west then one_part other else whole 0)
        (allowing_layouts question line_at) layout
        (each_of (λ (other : List ℕ × ℕ). 0 < (if same_counts other.0 west then one_part other else whole 0).den)
        (allowing_layouts question line_at)
        (λ other. either_some (same_counts other.0 west) (one_part other) (one_some (many other.0))))
        (Contains-filter (λ (other : List ℕ × ℕ). allows question other.0 line_at) (class_layouts question
        (sizes_of question)) layout listed (counts_allow question west history live.play))))

    layout_paid : (layout : List ℕ × ℕ)
        → IsNoMore (sum_of (λ west. if same_counts layout.0 west then one_part layout else whole 0)
        (live_layouts question history)) (whole (earns layout.0))
    layout_paid layout =
        let those : List Cards = filter (same_counts layout.0) (live_layouts question history) in
        let sum : Fraction = sum_of (λ west. if same_counts layout.0 west then one_part layout else whole 0)
        (live_layouts question history) in
        let d : ℕ = at_least_one (many layout.0) in
        no_more_then sum (sum_of (λ west. one_part layout) those) (whole (earns layout.0))
        (kept_sum (same_counts layout.0) (λ west. one_part layout) (live_layouts question history)
        (each_of (λ west. 0 < (one_part layout).den) (live_layouts question history) (λ west. one_some
        (many layout.0))))
        (no_more_then (sum_of (λ west. one_part layout) those) (parts_of (sum_by (λ west. earns layout.0) those) d)
        (whole (earns layout.0))
        (sum_parts (λ west. earns layout.0) d those (one_some (many layout.0)))
        (record {
          here_some = one_some (many layout.0);
          there_some = omega arith;
          least =
              rw (sum_by_constant (earns layout.0) those) (omega (
                arith,
                mul-le-mul_left (earns layout.0) (one_more
                    (many layout.0)),
              ));
        }))

    most_is : (start : Cards) → IsPlay question start history → most_at line_at
        ≡ sum_by (λ layout. earns layout.0) (allowing_layouts question line_at)
    most_is start play =
        let agrees = class_game_agrees question start history play in
        let reply : Reply = reply_to_defence question defence in
        let over : class_decided (class_after question line_at) ≡ true = agrees.decided ∙ decided in
        ap counted (worth_none reply line_at (ap (λ (b : Bool). if b then [] else filter
        (λ move. some_allows question (line_at ++ move ∷ [])) every_move) over))
        ∙ counted_total (λ (layout : List ℕ × ℕ). pos (class_payoff
        (class_after question line_at)) *ℤ defence_mass question defence layout.0 line_at)
        (allowing_layouts question line_at)
        (each_of (λ layout. pos 0 ≤ℤ (pos (class_payoff
        (class_after question line_at)) *ℤ defence_mass question defence layout.0 line_at))
        (allowing_layouts question line_at)
        (layout_positive question defence proper line_at))
        ∙ sum_by_same (λ (layout : List ℕ × ℕ). counted (pos (class_payoff
        (class_after question line_at)) *ℤ defence_mass question defence layout.0 line_at)) (λ layout. earns layout.0)
        (allowing_layouts question line_at)
        (λ layout. counted_mul (class_payoff (class_after question line_at))
        (defence_mass question defence layout.0 line_at)
        ∙ ap (λ (n : ℕ). n * counted (defence_mass question defence layout.0 line_at)) agrees.payoff)

    holds_decided : (start : Cards) → IsPlay question start history → Holds history
    holds_decided start play =
        let layouts_now : List Cards = live_layouts question history in
        let all : List (List ℕ × ℕ) = allowing_layouts question line_at in
        let cell : Cards → List ℕ × ℕ
        → Fraction = λ west layout. if same_counts layout.0 west then one_part layout else whole 0 in
        let cell_some : (west : Cards) (layout : List ℕ × ℕ)
        → 0 < (cell west layout).den = λ west layout. either_some (same_counts layout.0 west) (one_part layout)
        (one_some (many layout.0)) in
        let by_layout : Fraction = sum_of (λ west. sum_of (cell west) all) layouts_now in
        let by_counts : Fraction = sum_of (λ layout. sum_of (λ west. cell west layout) layouts_now) all in
        let earned : Fraction = sum_of (λ layout. whole (earns layout.0)) all in
        subst (λ (n : ℕ). IsNoMore (all_at history) (whole n)) (sym (most_is start play))
        (no_more_then (all_at history) by_layout (whole (sum_by (λ layout. earns layout.0) all))
        (sum_no_more (term history) (λ west. sum_of (cell west) all) layouts_now (each_in (λ west. IsNoMore
        (term history west) (sum_of (cell west) all)) layouts_now paid))
        (no_more_then by_layout by_counts (whole (sum_by (λ layout. earns layout.0) all))
        (sum_swapped cell layouts_now all (each_of (λ west. (layout : List ℕ × ℕ)
        → 0 < (cell west layout).den) layouts_now cell_some))
        (no_more_then by_counts earned (whole (sum_by (λ layout. earns layout.0) all))
        (sum_no_more (λ layout. sum_of (λ west. cell west layout) layouts_now) (λ layout. whole (earns layout.0)) all
        (each_of (λ layout. IsNoMore (sum_of (λ west. cell west layout) layouts_now) (whole
        (earns layout.0))) all layout_paid))
        (sum_parts (λ layout. earns layout.0) 1 all (omega arith)))))

  -- ---- where play goes on

  module _ (history : History) (undecided : is_decided question (after question history) ≡ false) where
    abbrev here_line : List ClassMove
    here_line = merged (hands_of question) history

    -- the class moves that some class layout allows
    abbrev replies_at : List ClassMove
    replies_at = filter (λ move. some_allows question (here_line ++ move ∷ [])) every_move

    on_at : (west : Cards) → IsLive question west history → IsOn question west history
    on_at west live = is_on question west history live.play undecided

    -- the merge of a move that is legal under a live layout is one of them
    reply_has : (west : Cards) (move : Move) → IsLive question west history
        → Contains (legal question west history) move → Contains replies_at (merge (hands_of question) move)
    reply_has west move live found =
        let hands : Hands = hands_of question in
        let later : IsLive question west
        (history ++ move ∷ []) = record {
          play = play_more question west history move live.play found;
          weighs = live.weighs;
        } in
        let there : Contains (class_moves (view_after question history) (counts_of hands west)) (merge hands move) =
        Contains-same (merge hands move) (sym (on_at west live).moves)
        (each_once-Contains (map (merge hands) (legal question west history)) (merge hands move) (Contains-map
        (merge hands) (legal question west history) move found)) in
        Contains-filter (λ class. some_allows question (here_line ++ class ∷ [])) every_move (merge hands move)
        (every_has (view_after question history) (counts_of hands west) (view_after question history).trick
        (merge hands move) there)
        (ap (some_allows question) (sym (merged-push hands history move))
        ∙ some_allow question west (history ++ move ∷ []) later)

    has_first : {X : Type 0} (xs : List X) (x : X) → Contains xs x → HasFirst xs
    has_first [] x found = absurd (omega (arith, found.1))
    has_first (first ∷ more) x found = record { first = first; more = more; parts = refl }

    -- what the class history is worth, by the side on turn
    most_by : (start : Cards) → IsLive question start history → (b : Bool)
        → is_declarer_turn (after question history).trick ≡ b
        → worth (reply_to_defence question defence) here_line
        ≡ (if b then best_of int_max (map (λ move. worth (reply_to_defence question defence)
        (here_line ++ move ∷ [])) replies_at)
        else whole_sum (map (λ move. worth (reply_to_defence question defence) (here_line ++ move ∷ [])) replies_at))
    most_by start live b turn =
        let reply : Reply = reply_to_defence question defence in
        let on = on_at start live in
        let worths : List ℤ = map (λ move. worth reply (here_line ++ move ∷ [])) replies_at in
        let first : Contains (legal question start history) on.some.first =
        Contains-same on.some.first (sym on.some.parts)
        (Contains-first on.some.first on.some.more) in
        worth_on reply here_line replies_at on.few (ap (λ (over : Bool). if over then [] else replies_at) on.undecided)
        (has_first replies_at (merge (hands_of question) on.some.first) (reply_has start on.some.first live first))
        ∙ ap (λ (own : Bool). if own then best_of int_max worths else whole_sum worths) (on.declarers ∙ turn)

    pay_by : (west : Cards) → IsLive question west history → (b : Bool)
        → is_declarer_turn (after question history).trick ≡ b
        → pay_at history west
        ≡ mean (valued (λ move. pay_at (history ++ move ∷ []) west)
        (chosen (if b then declarer history else defence_way question defence west history)
        (legal question west history)))
    pay_by west live b turn =
        pay_where_on question declarer
        (defence_way question defence) west history valid.north valid.south valid.apart live.play.legal
        (on_at west live).goes
        ∙ ap (λ (own : Bool). mean (valued (λ move. pay_at (history ++ move ∷ []) west)
        (chosen (if own then declarer history else defence_way question defence west history)
        (legal question west history)))) turn

    -- at declarer's turn
    module _ (own : is_declarer_turn (after question history).trick
        ≡ true) (start : Cards) (live : IsLive question start history)
        (later : (west : Cards) (move : Move) → IsLive question west (history ++ move ∷ [])
        → Contains (legal question west history) move → Holds (history ++ move ∷ [])) where
      abbrev picks : List Weighed
      picks = chosen (declarer history) (legal question [] history)

      abbrev picks_weight : ℕ
      picks_weight = sum_by (λ (choice : Weighed). choice.0) picks

      same_legal : (west : Cards) → legal question west history ≡ legal question [] history
      same_legal west = declarers_legal question west [] history own

      picks_some : 0 < picks_weight
      picks_some =
          let some = (on_at start live).some in
          let zero_value : Move → Fraction = λ move. whole 0 in
          subst (λ (n : ℕ). 0 < n) (picked_weight zero_value picks)
          (subst (λ (moves : List Move). 0 < total_weight (valued zero_value (chosen (declarer history) moves)))
          (sym (sym (same_legal start) ∙ some.parts))
          (chosen-weight (λ choice. zero_value choice.1) (declarer history) some.first some.more))

      abbrev pick_cell : Cards → Weighed → Fraction
      pick_cell west choice = times (parts_of choice.0 picks_weight) (term (history ++ choice.1 ∷ []) west)

      pick_legal : (choice : Weighed) → Contains picks choice → Contains (legal question [] history) choice.1
      pick_legal choice found = chosen_from (declarer history) (legal question [] history) choice found

      -- the mass and the layouts that are alike stay
      spread_same : (west : Cards) → IsLive question west history → (choice : Weighed) → Contains picks choice
          → (mass_of_layout west (merged (hands_of question) (history ++ choice.1 ∷ []))
          ≡ mass_of_layout west here_line)
          × (length (alike_layouts question west (after question (history ++ choice.1 ∷ [])).gone)
          ≡ length (alike_layouts question west (after question history).gone))
      unfolding defence_mass
      spread_same west alive choice found =
          let hands : Hands = hands_of question in
          let side = defenders question defence.den defence.rows (counts_of hands west) in
          let is_legal_move : Contains (legal question west history) choice.1 =
          Contains-same choice.1 (sym (same_legal west)) (pick_legal choice found) in (
            ap (mass_of_layout west) (merged-push hands history choice.1)
                ∙ ap counted (mass_kept question side here_line (merge hands choice.1) ((on_at west alive).defences
                ∙ ap not own)),
            ap length (alike_kept question west history choice.1 alive.play own is_legal_move),
          )

      cell_turned : (mn ad w t vn vd m' a' : ℕ) → m' ≡ mn → a' ≡ ad → mn * (w * vn) * (t * (a' * vd)) ≡ w * (m'
          * vn) * (ad * (t * vd))
      cell_turned mn ad w t vn vd m' a' same alike = rw (same, alike) (omega arith)

      term_picked : (west : Cards) → Contains (live_layouts question history) west
          → IsNoMore (term history west) (sum_of (pick_cell west) picks)
      term_picked west found =
          let alive = live_is question west history valid found in
          let value : Move → Fraction = λ move. pay_at (history ++ move ∷ []) west in
          let shares : Weighed → Fraction = λ choice. times (parts_of choice.0 picks_weight) (value choice.1) in
          let some_alike = alike_some question west (after question history).gone alive.play.layout in
          let dens : AllByRecursion (λ (choice : Weighed). 0 < (value choice.1).den) picks =
          each_of (λ (choice : Weighed). 0 < (value choice.1).den) picks (λ choice. pay-den question declarer
          (defence_way question defence) west (history ++ choice.1 ∷ [])) in
          let share_dens : AllByRecursion (λ choice. 0 < (shares choice).den) picks =
          each_of (λ choice. 0 < (shares choice).den) picks (λ choice. mul-pos picks_some (pay-den question declarer
          (defence_way question defence) west (history ++ choice.1 ∷ []))) in
          let paid : IsNoMore (pay_at history west) (sum_of shares picks) =
          subst (λ (f : Fraction). IsNoMore f (sum_of shares picks))
          (sym (pay_by west alive true own ∙ ap (λ (moves : List Move). mean (valued value (chosen
          (declarer history) moves))) (same_legal west)))
          (picked_mean value picks picks_some dens) in
          no_more_then (term history west) (times (spread history west) (sum_of shares picks)) (sum_of
          (pick_cell west) picks)
          (times_no_more (spread history west) (pay_at history west) (sum_of shares picks) some_alike paid)
          (no_more_then (times (spread history west) (sum_of shares picks)) (sum_of (λ choice. times
          (spread history west) (shares choice)) picks) (sum_of (pick_cell west) picks)
          (sum_times (spread history west) shares picks some_alike share_dens)
          (sum_no_more (λ choice. times (spread history west) (shares choice)) (pick_cell west) picks
          (each_in (λ choice. IsNoMore (times (spread history west) (shares choice)) (pick_cell west choice)) picks
          (λ choice there.
          let same = spread_same west alive choice there in
          no_more_same (times (spread history west) (shares choice)) (pick_cell west choice)
          (mul-pos some_alike (mul-pos picks_some (pay-den question declarer (defence_way question defence) west
          (history ++ choice.1 ∷ []))))
          (mul-pos picks_some (term_some (history ++ choice.1 ∷ []) west alive.play.layout))
          (cell_turned (mass_of_layout west here_line) (length (alike_layouts question west
          (after question history).gone)) choice.0 picks_weight
          (value choice.1).num (value choice.1).den (mass_of_layout west (merged (hands_of question)
          (history ++ choice.1 ∷ [])))
          (length (alike_layouts question west (after question (history ++ choice.1 ∷ [])).gone)) same.0 same.1)))))

      most_later : (choice : Weighed) → Contains picks choice
          → most_at (merged (hands_of question) (history ++ choice.1 ∷ [])) ≤ most_at here_line
      most_later choice found =
          let hands : Hands = hands_of question in
          let reply : Reply = reply_to_defence question defence in
          let class : ClassMove = merge hands choice.1 in
          let legal_start : Contains (legal question start history) choice.1 =
          Contains-same choice.1 (sym (same_legal start)) (pick_legal choice found) in
          let low = counted_least (worth reply (here_line ++ class ∷ [])) (worth reply here_line)
          (subst (λ (z : ℤ). worth reply (here_line ++ class ∷ []) ≤ℤ z) (sym (most_by start live true own))
          (most_of (λ move. worth reply (here_line ++ move ∷ [])) replies_at class
          (reply_has start choice.1 live legal_start))) in
          subst (λ (l : List ClassMove). most_at l ≤ most_at here_line) (sym (merged-push hands history choice.1)) low

      pick_bound : (choice : Weighed) → Contains picks choice
          → IsNoMore (sum_of (λ west. pick_cell west choice) (live_layouts question history)) (parts_of (choice.0
          * most_at here_line) (picks_weight * 1))
      pick_bound choice found =
          let next : History = history ++ choice.1 ∷ [] in
          let share : Fraction = parts_of choice.0 picks_weight in
          let legal_start : Contains (legal question start history) choice.1 =
          Contains-same choice.1 (sym (same_legal start)) (pick_legal choice found) in
          let alive : IsLive question start next =
          record {
            play = play_more question start history choice.1 live.play legal_start;
            weighs = live.weighs;
          } in
          let same : live_layouts question history
          ≡ live_layouts question next = live_kept question history choice.1 own (pick_legal choice found) in
          let held : IsNoMore (all_at next) (whole (most_at here_line)) =
          no_more_then (all_at next) (whole (most_at (merged (hands_of question) next))) (whole (most_at here_line))
          (later start choice.1 alive legal_start)
          (record {
            here_some = omega arith;
            there_some = omega arith;
            least = omega
                (arith, most_later choice found);
          }) in
          subst (λ (l : List Cards). IsNoMore (sum_of (λ west. pick_cell west choice) l) (parts_of (choice.0
          * most_at here_line) (picks_weight * 1))) (sym same)
          (no_more_then (sum_of (λ west. times share (term next west)) (live_layouts question next)) (times share
          (all_at next)) (times share (whole (most_at here_line)))
          (times_sum share (term next) (live_layouts question next) picks_some (live_terms next))
          (times_no_more share (all_at next) (whole (most_at here_line)) picks_some held))

      holds_declarer : Holds history
      holds_declarer =
          let layouts_now : List Cards = live_layouts question history in
          let by_layout : Fraction = sum_of (λ west. sum_of (pick_cell west) picks) layouts_now in
          let by_choice : Fraction = sum_of (λ choice. sum_of (λ west. pick_cell west choice) layouts_now) picks in
          let most : ℕ = most_at here_line in
          let bounds : Fraction = sum_of (λ (choice : Weighed). parts_of (choice.0 * most) (picks_weight * 1)) picks in
          let some : 0 < picks_weight * 1 = omega (arith, picks_some) in
          let summed : sum_by (λ (choice : Weighed). choice.0 * most) picks ≡ most * picks_weight =
          sum_by_same (λ (choice : Weighed). choice.0 * most) (λ choice. most
          * choice.0) picks (λ choice. omega arith) ∙ sum_by-mul most (λ (choice : Weighed). choice.0) picks in
          no_more_then (all_at history) by_layout (whole most)
          (sum_no_more (term history) (λ west. sum_of (pick_cell west) picks) layouts_now (each_in (λ west. IsNoMore
          (term history west) (sum_of (pick_cell west) picks)) layouts_now term_picked))
          (no_more_then by_layout by_choice (whole most)
          (sum_swapped pick_cell layouts_now picks
          (each_in (λ west. (choice : Weighed) → 0 < (pick_cell west choice).den) layouts_now
          (λ west found choice. mul-pos picks_some (term_some (history ++ choice.1 ∷ []) west
          (live_layout history west found)))))
          (no_more_then by_choice bounds (whole most)
          (sum_no_more (λ choice. sum_of (λ west. pick_cell west choice) layouts_now) (λ
          (choice : Weighed). parts_of (choice.0 * most) (picks_weight * 1)) picks
          (each_in (λ choice. IsNoMore (sum_of (λ west. pick_cell west choice) layouts_now) (parts_of (choice.0
          * most) (picks_weight * 1))) picks pick_bound))
          (no_more_then bounds (parts_of (sum_by (λ (choice : Weighed). choice.0 * most) picks) (picks_weight
          * 1)) (whole most)
          (sum_parts (λ (choice : Weighed). choice.0 * most) (picks_weight * 1) picks some)
          (record { here_some = some; there_some = omega arith; least = rw summed (omega arith) }))))

    -- at a defender's turn
    module _ (theirs : is_declarer_turn (after question history).trick
        ≡ false) (start : Cards) (live : IsLive question start history)
        (later : (west : Cards) (move : Move) → IsLive question west (history ++ move ∷ [])
        → Contains (legal question west history) move → Holds (history ++ move ∷ [])) where
      abbrev gone_now : Cards
      gone_now = (after question history).gone

      abbrev part : Move → Fraction
      part move = parts_of (common / unplayed question gone_now move) common

      abbrev card_cell : Cards → Move → Fraction
      card_cell west move =
          if is_one_of (legal question west history) move then times (part move) (term
          (history ++ move ∷ []) west) else whole 0

      card_cell_some : (west : Cards) → Contains (live_layouts question history) west → (move : Move)
          → 0 < (card_cell west move).den
      card_cell_some west found move =
          either_some (is_one_of (legal question west history) move) (times (part move) (term
          (history ++ move ∷ []) west))
          (mul-pos common_some (term_some (history ++ move ∷ []) west (live_layout history west found)))

      cell_met : (m w vn vd c u cu a' m' a t : ℕ) → cu * u ≡ c → u * (w * m) * a' ≡ t * m' * a → m * (w * vn) * (c
          * (a' * vd)) ≡ cu * (m' * vn) * (a * (t * vd))
      cell_met m w vn vd c u cu a' m' a t divides met =
          let stepped : u * (w * m) * a' * (cu * vn * vd) ≡ t * m' * a * (cu * vn * vd) = ap (λ (n : ℕ). n * (cu
          * vn * vd)) met in
          let whole_c : cu * u * (m * w * vn * a' * vd) ≡ c * (m * w * vn * a' * vd) = ap (λ (n : ℕ). n * (m * w
          * vn * a' * vd)) divides in
          omega (arith, stepped, whole_c)

      term_shared : (west : Cards) → Contains (live_layouts question history) west
          → IsNoMore (term history west) (sum_of (card_cell west) every_card_move)
      term_shared west found =
          let alive = live_is question west history valid found in
          let on = on_at west alive in
          let moves : List Move = legal question west history in
          let weight_of : Move → ℕ = defence_way question defence west history in
          let all : ℕ = sum_by weight_of moves in
          let some_weight : 0 < all = weights_some question defence west history proper alive.play on theirs in
          let value : Move → Fraction = λ move. pay_at (history ++ move ∷ []) west in
          let value_some : (move : Move) → 0 < (value move).den = λ move. pay-den question declarer
          (defence_way question defence) west (history ++ move ∷ []) in
          let shares : Move → Fraction = λ move. times (parts_of (weight_of move) all) (value move) in
          let next : Move → Fraction = λ move. times (part move) (term (history ++ move ∷ []) west) in
          let next_some : (move : Move) → 0 < (next move).den = λ move. mul-pos common_some (term_some
          (history ++ move ∷ []) west alive.play.layout) in
          let some_alike = alike_some question west gone_now alive.play.layout in
          let paid : IsNoMore (pay_at history west) (sum_of shares moves) =
          subst (λ (f : Fraction). IsNoMore f (sum_of shares moves)) (sym (pay_by west alive false theirs))
          (shares_mean weight_of value moves some_weight (each_of (λ move. 0 < (value move).den) moves value_some)) in
          let met : (move : Move) → Contains moves move
          → IsNoMore (times (spread history west) (shares move)) (next move) = λ move there.
          let fits = unplayed_fits question west history move alive.play theirs there in
          no_more_same (times (spread history west) (shares move)) (next move) (mul-pos some_alike
          (mul-pos some_weight (value_some move))) (next_some move)
          (cell_met (mass_of_layout west here_line) (weight_of move) (value move).num (value move).den common
          (unplayed question gone_now move) (common / unplayed question gone_now move)
          (length (alike_layouts question west (after question (history ++ move ∷ [])).gone)) (mass_of_layout west
          (merged (hands_of question) (history ++ move ∷ [])))
          (length (alike_layouts question west gone_now)) all (common_divided
          (unplayed question gone_now move) fits.0 fits.1)
          (weight_step question defence west history proper alive.play on theirs move there)) in
          no_more_then (term history west) (times (spread history west) (sum_of shares moves)) (sum_of
          (card_cell west) every_card_move)
          (times_no_more (spread history west) (pay_at history west) (sum_of shares moves) some_alike paid)
          (no_more_then (times (spread history west) (sum_of shares moves)) (sum_of (λ move. times
          (spread history west) (shares move)) moves) (sum_of (card_cell west) every_card_move)
          (sum_times (spread history west) shares moves some_alike (each_of (λ move. 0 < (shares move).den) moves
          (λ move. mul-pos some_weight (value_some move))))
          (no_more_then (sum_of (λ move. times (spread history west) (shares move)) moves) (sum_of next moves)
          (sum_of (card_cell west) every_card_move)
          (sum_no_more (λ move. times (spread history west) (shares move)) next moves
          (each_in (λ move. IsNoMore (times (spread history west) (shares move)) (next move)) moves met))
          (subst (λ (l : List Move). IsNoMore (sum_of next l) (sum_of (card_cell west) every_card_move)) (sym
          (legal_listed question west history alive.play theirs))
          (sum_kept (is_one_of moves) next every_card_move (each_of (λ move. 0 <
          (next move).den) every_card_move next_some)))))

      -- the bound of a move, where some layout is live after it
      abbrev bound_if : List Cards → Move → ℕ
      bound_if [] move = 0
      bound_if (west ∷ wests) move =
          common / unplayed question gone_now move * most_at (merged (hands_of question) (history ++ move ∷ []))

      live_before : (west : Cards) (move : Move) → Contains (live_layouts question (history ++ move ∷ [])) west
          → Contains (live_layouts question history) west × Contains (legal question west history) move
      live_before west move found =
          let from = kept_parts (λ other. is_one_of (legal question other history) move)
          (live_layouts question history) west
          (Contains-same west (sym (live_later question history move)) found) in
          (from.0, one_of_tells (legal question west history) move from.1)

      column : (move : Move) (list : List Cards) → live_layouts question (history ++ move ∷ []) ≡ list
          → IsNoMore (times (part move) (sum_of (term (history ++ move ∷ [])) list)) (parts_of
          (bound_if list move) common)
      unfolding sum_of
      column move [] is =
          record { here_some = mul-pos common_some (omega arith); there_some = common_some; least = omega arith }
      column move (west ∷ wests) is =
          let next : History = history ++ move ∷ [] in
          let found : Contains (live_layouts question next) west = Contains-same west
          (sym is) (Contains-first west wests) in
          let before = live_before west move found in
          let held : Holds next = later west move (live_is question west next valid found) before.1 in
          let most : ℕ = most_at (merged (hands_of question) next) in
          no_more_then (times (part move) (sum_of (term next) (west ∷ wests))) (times (part move) (whole most))
          (parts_of (bound_if (west ∷ wests) move) common)
          (times_no_more (part move) (sum_of (term next) (west ∷ wests)) (whole most) common_some
          (subst (λ (l : List Cards). IsNoMore (sum_of (term next) l) (whole most)) is held))
          (record { here_some = mul-pos common_some (omega arith); there_some = common_some; least = omega arith })

      abbrev bound_of : Move → ℕ
      bound_of move = bound_if (live_layouts question (history ++ move ∷ [])) move

      card_bound : (move : Move) → IsNoMore (sum_of (λ west. card_cell west move) (live_layouts question history))
          (parts_of (bound_of move) common)
      card_bound move =
          let next : History = history ++ move ∷ [] in
          let layouts_now : List Cards = live_layouts question history in
          let value : Cards → Fraction = λ west. times (part move) (term next west) in
          let values : AllByRecursion (λ west. 0 < (value west).den) layouts_now =
          each_in (λ west. 0 < (value west).den) layouts_now (λ west found. mul-pos common_some (term_some next west
          (live_layout history west found))) in
          no_more_then (sum_of (λ west. card_cell west move) layouts_now) (sum_of value
          (live_layouts question next)) (parts_of (bound_of move) common)
          (subst (λ (l : List Cards). IsNoMore (sum_of (λ west. card_cell west move) layouts_now) (sum_of value l))
          (live_later question history move)
          (kept_sum (λ west. is_one_of (legal question west history) move) value layouts_now values))
          (no_more_then (sum_of value (live_layouts question next)) (times (part move) (all_at next)) (parts_of
          (bound_of move) common)
          (times_sum (part move) (term next) (live_layouts question next) common_some (live_terms next))
          (column move (live_layouts question next) refl))

      next_worth : ClassMove → ℕ
      next_worth class = most_at (here_line ++ class ∷ [])

      -- a move after which some layout is live is bounded by the worth of its class move
      bound_among : (move : Move) (list : List Cards) → live_layouts question (history ++ move ∷ []) ≡ list
          → bound_if list move ≤ common / unplayed question gone_now move
          * worth_among replies_at next_worth (merge (hands_of question) move)
      unfolding next_worth
      bound_among move [] is = omega arith
      bound_among move (west ∷ wests) is =
          let found : Contains (live_layouts question (history ++ move ∷ [])) west =
          Contains-same west (sym is) (Contains-first west wests) in
          let before = live_before west move found in
          let class : ClassMove = merge (hands_of question) move in
          let among : is_among replies_at class ≡ true = among_contained replies_at class (reply_has west move
          (live_is question west history valid before.0) before.1) in
          let same : most_at (merged (hands_of question) (history ++ move ∷ []))
          ≡ worth_among replies_at (λ other. most_at (here_line ++ other ∷ [])) class =
          ap most_at (merged-push (hands_of question) history move)
          ∙ sym (ap {B = ℕ} (λ (b : Bool). if b then most_at (here_line ++ class ∷ []) else 0) among) in
          omega (arith, ap (λ (n : ℕ). common / unplayed question gone_now move * n) same)

      bound_left : (card : ℕ) (list : List Cards) → live_layouts question (history ++ Follow card ∷ []) ≡ list
          → bound_if list (Follow card) ≤ (if holds
          (left question gone_now replies_at next_worth) card
          then card_share question gone_now replies_at next_worth card else 0)
      bound_left card [] is = omega arith
      bound_left card (west ∷ wests) is =
          let found : Contains (live_layouts question (history ++ Follow card ∷ [])) west =
          Contains-same west (sym is) (Contains-first west wests) in
          let before = live_before west (Follow card) found in
          let held = their_left question west history card
          (live_is question west history valid before.0).play theirs before.1 in
          subst (λ (b : Bool). bound_if (west ∷ wests) (Follow card) ≤
          (if b then card_share question gone_now replies_at next_worth card else 0)) (sym held)
          (bound_among (Follow card) (west ∷ wests) is)

      most_sum : most_at here_line ≡ sum_by next_worth replies_at
      unfolding next_worth
      most_sum =
          let reply : Reply = reply_to_defence question defence in
          ap counted (most_by start live false theirs)
          ∙ counted_total (λ move. worth reply (here_line ++ move ∷ [])) replies_at
          (each_of (λ move. pos 0 ≤ℤ worth reply (here_line ++ move ∷ [])) replies_at
          (λ move. most_positive question defence proper (here_line ++ move ∷ [])))

      holds_defence : Holds history
      holds_defence =
          let layouts_now : List Cards = live_layouts question history in
          let by_layout : Fraction = sum_of (λ west. sum_of (card_cell west) every_card_move) layouts_now in
          let by_move : Fraction = sum_of (λ move. sum_of (λ west. card_cell west move) layouts_now) every_card_move in
          let bounds : Fraction = sum_of (λ move. parts_of (bound_of move) common) every_card_move in
          let most : ℕ = most_at here_line in
          let small : sum_by bound_of every_card_move ≤ common * sum_by next_worth replies_at =
          spread_sum question gone_now replies_at next_worth bound_of
          (bound_among ShowOut (live_layouts question (history ++ ShowOut ∷ [])) refl)
          (λ card. bound_left card (live_layouts question (history ++ Follow card ∷ [])) refl) in
          no_more_then (all_at history) by_layout (whole most)
          (sum_no_more (term history) (λ west. sum_of (card_cell west) every_card_move) layouts_now
          (each_in (λ west. IsNoMore (term history west) (sum_of
          (card_cell west) every_card_move)) layouts_now term_shared))
          (no_more_then by_layout by_move (whole most)
          (sum_swapped card_cell layouts_now every_card_move (each_in (λ west. (move : Move)
          → 0 < (card_cell west move).den) layouts_now card_cell_some))
          (no_more_then by_move bounds (whole most)
          (sum_no_more (λ move. sum_of (λ west. card_cell west move) layouts_now) (λ move. parts_of
          (bound_of move) common) every_card_move
          (each_of (λ move. IsNoMore (sum_of (λ west. card_cell west move) layouts_now) (parts_of
          (bound_of move) common)) every_card_move card_bound))
          (no_more_then bounds (parts_of (sum_by bound_of every_card_move) common) (whole most)
          (sum_parts bound_of common every_card_move common_some)
          (record {
            here_some = common_some;
            there_some = omega arith;
            least = omega (
              arith,
              small,
              ap (λ
                  (n : ℕ). common * n) most_sum,
            );
          }))))

  -- ---- all histories

  module _ (history : History) (later : (west : Cards) (move : Move) → is_decided question (after question history)
      ≡ false → IsLive question west (history ++ move ∷ [])
      → Contains (legal question west history) move → Holds (history ++ move ∷ [])) where
    holds_live : (start : Cards) → IsLive question start history → Holds history
    holds_live start live = elim (cases_Bool (is_decided question (after question history))) [
      | inl decided ↦ holds_decided history decided start live.play
      | inr undecided ↦
          elim (cases_Bool (is_declarer_turn (after question history).trick)) [
            | inl own ↦ holds_declarer history undecided own start live (λ west move. later west move undecided)
            | inr theirs ↦ holds_defence history undecided theirs start live (λ west move. later west move undecided)
          ]
    ]

  holds_within : (n : ℕ) (history : History) (start : Cards) → IsLive question start history
      → room question (after question history) ≤ n → Holds history
  holds_within zero history start live fits =
      holds_live history
      (λ west move undecided alive found. absurd (true≢false (sym (ended_with_no_room question
      (after question history) fits) ∙ (is_on question start history live.play undecided).goes)))
      start live
  holds_within (suc n) history start live fits =
      holds_live history
      (λ west move undecided alive found. holds_within n (history ++ move ∷ []) west alive
      (room_after_move question west history move n found fits)) start live

  holds_listed : (history : History) (list : List Cards) → live_layouts question history ≡ list → Holds history
  unfolding sum_of
  holds_listed history [] is =
      subst (λ (l : List Cards). IsNoMore (sum_of (term history) l) (whole (most_at (merged
      (hands_of question) history)))) (sym is)
      (nothing_more (most_at (merged (hands_of question) history)))
  holds_listed history (west ∷ wests) is =
      let found : Contains (live_layouts question history) west = Contains-same west
      (sym is) (Contains-first west wests) in
      holds_within (room question (after question history)) history west (live_is question west history valid found)
      (omega arith)

  -- after each history
  pub defences_spread : (history : History) → Holds history
  defences_spread history = holds_listed history (live_layouts question history) refl
