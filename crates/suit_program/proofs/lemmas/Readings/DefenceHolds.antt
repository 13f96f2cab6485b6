-- A defence that is read from feasible prices lets declarer earn no more than the game of the support is worth, where
-- the support has the moves of the best reply to it (`defence_holds`).
use Rattle.std.proofs.Common.{◌≡◌, ◌⊎◌, ℕ, zero, suc, ◌-◌, Bool, true, false, List, [], ◌∷◌, ◌++◌, length}
use Rattle.std.proofs.Common.{map, refl, sym, ap, ◌∙◌, subst, inl, inr, arith}
use Rattle.std.specs.Prelude.{Contains, ◌&&◌, filter, nat_lt, if◌then◌else◌, ℤ, pos, ◌+ℤ◌, ◌-ℤ◌, ◌*ℤ◌, ◌≤ℤ◌, int_lt}
use Rattle.std.specs.List.{list_any}
use Rattle.std.specs.Ordering.{int_eq}
use Rattle.std.proofs.lemmas.Bool.{cases_Bool, false≢true, false_from_ne_true}
use Rattle.std.proofs.lemmas.Bool.Decides.{Decides-int_eq}
use Rattle.std.proofs.lemmas.Int.{ints}
use Rattle.std.proofs.lemmas.List.{length-append}
use Rattle.std.proofs.lemmas.List.Elements.{filter_agree}
use Rattle.std.proofs.Math.IntN.{*ℤ_comm}
use Rattle.suit_cards.specs.Cards.{ClassLayout}
use Rattle.suit_num.proofs.IntegerLaws.{int_lt-false, int_lt-true, le-mul_right, mul_assoc}
use Rattle.suit_lists.proofs.Elements.{Contains-first, Contains-same}
use Rattle.suit_lists.proofs.Filters.{filter-filter, filter_all}
use Rattle.suit_lists.proofs.Firsts.{HasFirst-found}
use Rattle.suit_lists.proofs.Maps.{Contains-map_from, map_same}
use Rattle.suit_lists.proofs.Tests.{passing_some, some_passing}
use Rattle.suit_game.specs.declared.question.Question.{Question}
use Rattle.suit_game.specs.Validity.{IsValid}
use Rattle.suit_game.specs.declared.limits.TheConstants.{MOST_MOVES}
use Rattle.suit_classes.specs.declared.class_moves.ClassMove.{ClassMove}
use Rattle.suit_classes.specs.WhatIsAllowed.{every_move, is_among}
use Rattle.suit_classes.specs.ClassMoves.{same_class_move}
use Rattle.suit_classes.specs.ClassPlaces.{class_after, class_decided, class_moves, class_turn}
use Rattle.suit_classes.proofs.SameMoves.{among-Contains, among_contained, both_second, same_move-itself}
use Rattle.suit_plans.specs.declared.defence.Defence.{Defence}
use Rattle.suit_plans.specs.BestReplies.{Reply, allowing_layouts, first_of, follows}
use Rattle.suit_plans.specs.BestReplies.{most, most_reply, public_moves, reply_move, reply_to_defence, worth}
use Rattle.suit_plans.specs.Masses.{defence_mass, defenders, is_declarers, is_defences, weight_of}
use Rattle.suit_plans.specs.Properness.{IsProperDefence, some_allows, sum_of}
use Rattle.suit_plans.proofs.RepliesAreBounded.{some_allow_none, weight_listed}
use Rattle.suit_plans.proofs.DefenceWorths.{defences_at_declarers, defences_at_defences, mass_positive, room}
use Rattle.suit_plans.proofs.MassBounds.{mass_falls}
use Rattle.suit_plans.proofs.MassSteps.{mass_kept}
use Rattle.suit_plans.proofs.NumberSums.{sum_kept, sum_times, sums_exchanged}
use Rattle.suit_plans.proofs.ProperDefences.{defences_are_realised}
use Rattle.suit_plans.proofs.PublicMoves.{Contains-allowing, allowing_before, allowing_parts}
use Rattle.suit_plans.proofs.PublicMoves.{layout_weighs, own_moves_on, public_allowed, public_going, some_public}
use Rattle.suit_plans.proofs.ReplyChoices.{reply_move_found}
use Rattle.suit_plans.proofs.SharesAddUpToTheMass.{within_sum}
use Rattle.suit_plans.proofs.TurnMoves.{declarers_moves}
use Rattle.suit_plans.proofs.WhoseTurns.{Declarers, Defences, Over, WhoseTurn, whose_turn}
use Rattle.suit_plans.proofs.WorthsAtTurns.{max_picks}
use Rattle.suit_linear.specs.Points.{dot, number_at}
use Rattle.suit_linear.specs.Programs.{IsDualFeasible}
use Rattle.suit_program.specs.Programs.Points.{Point}
use Rattle.suit_program.specs.Programs.{limits, program_of, supported_worth}
use Rattle.suit_program.specs.Readings.{Reading, defence_of, defence_reading, price_of, read_from, read_mass}
use Rattle.suit_program.specs.Supports.{Support, are_new, declarer_chooses, defence_chooses, is_reached}
use Rattle.suit_program.specs.Supports.{layouts_of, legal_moves, names, reached_layouts, supported_moves}
use Rattle.suit_program.specs.Programs.Worths.{objective_at, worth_within}
use Rattle.suit_program.proofs.lemmas.Readings.PlanKeeps.{first_passes}
use Rattle.suit_program.proofs.lemmas.Readings.PricesCoverTheMass.{sum_less}
use Rattle.suit_program.proofs.lemmas.Programs.WorthAtPrices.{exceeds, exceeds_by_play, part_of, points_bounded}
use Rattle.suit_program.proofs.lemmas.Supports.WhatIsReached.{reached_allows, reached_next, reached_none}
use Rattle.suit_program.proofs.lemmas.Readings.DefenceIsProper.{few_all, none_theirs, unsupported_none}
use Rattle.suit_program.proofs.lemmas.Readings.MassesNoLess.{not_own}
use Rattle.suit_program.proofs.lemmas.Programs.SumsInOrder.{le_trans, sum_le}
use Rattle.suit_program.proofs.lemmas.Supports.HasTheReply.{both_true, follows_next}
use Rattle.suit_program.proofs.lemmas.Supports.TurnCases.{Ended, Forced, Own, Theirs, TurnAt, legal_going}
use Rattle.suit_program.proofs.lemmas.Supports.TurnCases.{own_supported, turn_at}
use Rattle.suit_program.proofs.lemmas.Programs.OneMoveEach.{chosen, chosen-push, chosen_none, taken_columns}
use Rattle.suit_program.proofs.lemmas.Programs.OneMoveEach.{taken_listed, taken_point, taken_tight}
use Rattle.suit_program.proofs.lemmas.Supports.SumsByPlay.{layouts_next, play_sum, supported_all}
use Rattle.suit_program.proofs.lemmas.Programs.WorthWithinMass.{choosing, going, only_one, some_summed}
use Rattle.suit_program.proofs.lemmas.Readings.HeldInEachLayout.{sum_under_one, bounded, bound_stays}
use Rattle.suit_program.proofs.lemmas.Readings.HeldInEachLayout.{bound_price, worth_low}
use Rattle.suit_program.proofs.lemmas.Readings.HeldInEachLayout.{point_held, part_none, part_choice, play_low, held_low}
use Rattle.suit_program.proofs.lemmas.Readings.HeldInEachLayout.{layout_parts}
use Rattle.suit_program.proofs.lemmas.Readings.HeldInEachLayout.{dead_under, over_under, public_held, own_named, takes}

module _ (question : Question) (support : Support) (valid : IsValid question) (prices : List ℤ) (scale : ℤ)
    (dual : IsDualFeasible (program_of question support) prices scale)
    (proper : IsProperDefence question (defence_of question support prices scale))
    (all : are_new question support (most_reply question (defence_of question support prices scale)) [] ≡ false) where
  abbrev read : Defence
  read = defence_of question support prices scale

  abbrev reply : Reply
  reply = reply_to_defence question read

  -- the move of the reply where it is in the support, and else the first
  abbrev taken : List ClassMove → ClassMove
  taken history = if is_among (supported_moves question support [] history) (reply_move reply history)
      then reply_move reply history else first_of (supported_moves question support [] history)

  abbrev point : Point
  point = taken_point question support valid taken (takes question support valid prices scale dual proper all)

  abbrev is_chosen : List ClassMove → Bool
  is_chosen history = chosen question support valid taken (takes question support valid prices scale dual proper all)
      history

  abbrev price : ClassLayout → List ClassMove → ClassMove → ℤ
  price west history move = price_of (limits question support) prices west history move

  -- a reading by the prices alone, not cut to the mass
  abbrev uncut : ClassLayout → Reading
  uncut west = record {
    chooses = defence_chooses question west;
    shares = λ history mass. map (λ move. (move, price west history move))
        (supported_moves question support west history);
    whole = pos (weight_of question west) *ℤ scale;
  }

  abbrev bound : ClassLayout → List ClassMove → ℤ
  bound west history = read_mass (uncut west) history

  abbrev mass : ClassLayout → List ClassMove → ℤ
  mass west history = defence_mass question read west history

  abbrev read_in : ClassLayout → List ClassMove → ℤ
  read_in west history = read_mass (defence_reading question support prices scale west) history

  abbrev IsBounded : ClassLayout → List ClassMove → Type 0
  IsBounded west history = (is_reached question support west history ≡ true) × (pos 0 ≤ℤ bound west history)
      × (read_in west history ≤ℤ bound west history)

  abbrev worth_z : ℕ → ClassLayout → List ClassMove → ℤ
  worth_z more west history = worth_within question support point more west history

  abbrev part : List ClassMove → ClassLayout × ℕ → ℤ
  part history layout = part_of question support prices scale dual point history layout

  abbrev play : ℕ → ClassLayout × ℕ → List ClassMove → ℤ
  play more layout history = play_sum question support part more layout history

  abbrev held : ℕ → List ClassMove → ClassLayout × ℕ → ℤ
  held more history layout = bound layout.0 history *ℤ worth_z (suc more) layout.0 history -ℤ play more layout history

  -- a class history to which the reply and the moves taken go, and in other class layouts than those in which it is
  -- reached nothing comes to it
  abbrev IsTraced : List ClassMove → Type 0
  IsTraced history = (layout : ClassLayout × ℕ) → Contains (allowing_layouts question history) layout
      → (is_reached question support layout.0 history ≡ true) ⊎ (mass layout.0 history ≡ pos 0)

  abbrev held_in_all : ℕ → List ClassMove → ℤ
  held_in_all more history = sum_of (map (held more history) (reached_layouts question support history))

  abbrev IsUnder : ℕ → List ClassMove → Type 0
  IsUnder more history = worth reply history ≤ℤ held_in_all more history

  -- ---- fuel

  room_left : (history : List ClassMove) (move : ClassMove) (more : ℕ) → suc more ≡ MOST_MOVES - length history
      → suc MOST_MOVES - length (history ++ move ∷ []) ≡ suc more
  room_left history move more left = omega (arith, left, length-append history (move ∷ []))

  more_left : (history : List ClassMove) (move : ClassMove) (more : ℕ) → suc more ≡ MOST_MOVES - length history
      → more ≡ MOST_MOVES - length (history ++ move ∷ [])
  more_left history move more left = omega (arith, left, length-append history (move ∷ []))

  -- ---- a turn of declarer's

  -- what is left of a class layout after a move at a turn without a choice of the defence
  held_falls : (more : ℕ) (history : List ClassMove) (move : ClassMove) (layout : ClassLayout × ℕ)
      → is_reached question support layout.0 history ≡ true → defence_chooses question layout.0 history ≡ false
      → Contains (supported_moves question support layout.0 history) move
      → held more (history ++ move ∷ []) layout ≤ℤ held (suc more) history layout
  unfolding play_sum
  held_falls more history move layout reached waits found =
      let west : ClassLayout = layout.0 in
      let moves : List ClassMove = supported_moves question support west history in
      let worths : ClassMove → ℤ = λ other. worth_z (suc more) west (history ++ other ∷ []) in
      let plays : ClassMove → ℤ = λ other. play more layout (history ++ other ∷ []) in
      let sum : worth_z (suc (suc more)) west history ≡ sum_of (map worths moves) =
      going question support point west (suc more) history moves waits refl
      ∙ some_summed question support point history worths moves (HasFirst-found moves move found) in
      let most = within_sum worths moves move
      (λ other there. worth_low question support valid prices scale dual proper all (suc more) west (history
      ++ other ∷ []))
      found in
      let least = sum_under_one plays moves move found
      (λ other there. play_low question support valid prices scale dual proper all more layout (history ++ other
      ∷ [])) in
      finish (bound west history) (bound west (history ++ move ∷ [])) (worths move) (sum_of (map worths moves))
      (worth_z (suc (suc more)) west history) (plays move) (sum_of (map plays moves)) (part history layout)
      (bounded question support valid prices scale dual proper all west history reached).1
      (bound_stays question support valid prices scale dual proper all west history move waits) most sum least
      (part_none question support valid prices scale dual proper all history layout waits)
    where
      finish : (b c w s v p q r : ℤ) → pos 0 ≤ℤ b → c ≡ b → w ≤ℤ s → v ≡ s → q ≤ℤ p → r ≡ pos 0
          → (c *ℤ w -ℤ p) ≤ℤ (b *ℤ v -ℤ (r +ℤ q))
      finish b c w s v p q r low same most sum least none =
          let first : c *ℤ w ≡ w *ℤ b = ap (λ (z : ℤ). z *ℤ w) same ∙ *ℤ_comm b w in
          let second : b *ℤ v ≡ s *ℤ b = ap (λ (z : ℤ). b *ℤ z) sum ∙ *ℤ_comm b s in
          let times = le-mul_right w s b most low in
          omega (arith, ints, first, second, times, least, none)

  -- a class history that some class layout allows, to which the reply and the moves taken go
  abbrev IsGoing : List ClassMove → Type 0
  IsGoing history = (some_allows question history ≡ true) × (follows reply [] history ≡ true)
      × (is_chosen history ≡ true) × IsTraced history

  abbrev NextUnder : ℕ → List ClassMove → Type 0
  NextUnder more history = (move : ClassMove) → IsGoing (history ++ move ∷ []) → IsUnder more (history ++ move ∷ [])

  -- a move of the other side keeps the mass of the defence
  mass_stays : (layout : ClassLayout × ℕ) (history : List ClassMove) (move : ClassMove)
      → is_defences (class_turn (class_after question history)) ≡ false
      → mass layout.0 (history ++ move ∷ []) ≡ mass layout.0 history
  unfolding defence_mass
  mass_stays layout history move not_theirs =
      mass_kept question (defenders question read.den read.rows layout.0) history move not_theirs

  -- where nothing came nothing goes on
  none_next : (layout : ClassLayout × ℕ) → Contains (layouts_of question) layout → (history : List ClassMove)
      (move : ClassMove) → Contains (allowing_layouts question history) layout
      → Contains (class_moves (class_after question history) layout.0) move
      → Contains (allowing_layouts question (history ++ move ∷ [])) layout
      → mass layout.0 history ≡ pos 0 → mass layout.0 (history ++ move ∷ []) ≡ pos 0
  unfolding defence_mass
  none_next layout listed history move before found there none =
      let realised = defences_are_realised question read layout.0 valid proper
      (layout_weighs question valid layout listed) in
      let falls = mass_falls question (defenders question read.den read.rows layout.0) layout.0 history move realised
      (allowing_parts question valid history layout before).1 found in
      let low = realised.positive (history ++ move ∷ []) (allowing_parts question valid (history ++ move ∷ []) layout
      there).1 in
      nothing (mass layout.0 (history ++ move ∷ [])) (mass layout.0 history) low falls none
    where
      nothing : (x y : ℤ) → pos 0 ≤ℤ x → x ≤ℤ y → y ≡ pos 0 → x ≡ pos 0
      nothing x y p q is = omega (arith, ints, p, q, is)

  -- the move of the reply is worth as much as the turn
  own_worth : (history : List ClassMove) → some_allows question history ≡ true
      → is_declarers (class_turn (class_after question history)) ≡ true
      → worth reply (history ++ reply_move reply history ∷ []) ≡ worth reply history
  unfolding reply_move
  own_worth history some own =
      let moves : List ClassMove = public_moves question history in
      let most = defences_at_declarers question read history valid some own in
      let from = Contains-map_from (λ move. worth reply (history ++ move ∷ [])) moves (worth reply history)
      most.attained in
      let test : ClassMove → Bool =
      λ move. int_eq (worth reply (history ++ move ∷ [])) (worth reply history) in
      (Decides-int_eq (worth reply (history ++ reply_move reply history ∷ [])) (worth reply history)).0
      (first_passes test moves from.0 from.1
      ((Decides-int_eq (worth reply (history ++ from.0 ∷ [])) (worth reply history)).1 from.2))

  -- where declarer has no choice his move is in the support
  alone_own : (history : List ClassMove) (move : ClassMove) → class_decided (class_after question history) ≡ false
      → is_declarers (class_turn (class_after question history)) ≡ true → declarer_chooses question history ≡ false
      → Contains (class_moves (class_after question history) []) move
      → Contains (supported_moves question support [] history) move
  unfolding declarer_chooses supported_moves
  alone_own history move not_over own waits found =
      let legal : List ClassMove = legal_moves question [] history in
      let few : nat_lt 1 (length legal) ≡ false = sym (ap (λ (b : Bool). b && nat_lt 1 (length legal)) own) ∙ waits in
      Contains-same move
      (sym (few_all (names question support [] history) legal few
      ∙ legal_going question support [] history [] not_over))
      found

  -- so the move of the reply is, where it is alive, and it is the one that is taken
  own_move : (layout : ClassLayout × ℕ) → Contains (layouts_of question) layout → (history : List ClassMove)
      → is_reached question support layout.0 history ≡ true → class_decided (class_after question history) ≡ false
      → is_declarers (class_turn (class_after question history)) ≡ true → some_allows question history ≡ true
      → follows reply [] history ≡ true → reply.live history ≡ true
      → Contains (public_moves question history) (reply_move reply history)
      → Contains (supported_moves question support [] history) (reply_move reply history)
      × ((if declarer_chooses question history then same_class_move (taken history) (reply_move reply history)
      else true)
      ≡ true)
  own_move layout listed history reached not_over own some goes live found =
      elim (cases_Bool (declarer_chooses question history)) [
        | inl chooses ↦
            let among = own_named question support valid prices scale dual proper all layout listed history reached
            chooses goes live in (
              among-Contains (supported_moves question support [] history) (reply_move reply history) among,
              ap (λ (b : Bool). if b then same_class_move (taken history) (reply_move reply history) else true) chooses
                  ∙ ap (λ (b : Bool). same_class_move (if b then reply_move reply history
                  else first_of (supported_moves question support [] history)) (reply_move reply history)) among
                  ∙ same_move-itself (reply_move reply history),
            )
        | inr waits ↦ (
          alone_own history (reply_move reply history) not_over own waits
              (Contains-same (reply_move reply history)
              (own_moves_on question valid history not_over layout
              (Contains-allowing question valid history layout listed
              (reached_allows question support valid layout listed history reached)) own
              ∙ declarers_moves (class_after question history) layout.0 [] own) found),
          ap (λ (b : Bool). if b then same_class_move (taken history) (reply_move reply history) else true) waits,
        )
      ]

  -- a supported move of declarer's is one in each class layout
  layouts_kept : (history : List ClassMove) (move : ClassMove) → class_decided (class_after question history) ≡ false
      → is_declarers (class_turn (class_after question history)) ≡ true
      → Contains (supported_moves question support [] history) move
      → reached_layouts question support (history ++ move ∷ []) ≡ reached_layouts question support history
  layouts_kept history move not_over own found =
      sym (layouts_next question support history move)
      ∙ filter_all (λ (layout : ClassLayout × ℕ). is_among (supported_moves question support layout.0 history) move)
      (reached_layouts question support history)
      (λ layout. among_contained (supported_moves question support layout.0 history) move
      (Contains-same move
      (sym (own_supported question support layout.0 history not_over own)) found))

  own_under : (more : ℕ) (history : List ClassMove) → IsGoing history → reply.live history ≡ true
      → class_decided (class_after question history) ≡ false
      → is_declarers (class_turn (class_after question history)) ≡ true
      → is_defences (class_turn (class_after question history)) ≡ false
      → (layout : ClassLayout × ℕ) → Contains (layouts_of question) layout
      → is_reached question support layout.0 history ≡ true
      → NextUnder more history → IsUnder (suc more) history
  own_under more history fits live not_over own not_theirs layout listed reached next =
      let move : ClassMove = reply_move reply history in
      let short = room question read valid history fits.0 not_over in
      let some = some_public question valid history not_over layout
      (Contains-allowing question valid history layout listed
      (reached_allows question support valid layout listed history reached)) in
      let found : Contains (public_moves question history) move =
      reply_move_found reply history max_picks short some own in
      let moved = own_move layout listed history reached not_over own fits.0 fits.1 live found in
      let each : (other : ClassLayout × ℕ) → Contains (supported_moves question support other.0 history) move =
      λ other. Contains-same move
      (sym (own_supported question support other.0 history not_over own)) moved.0 in
      let on : IsGoing (history ++ move ∷ []) = (
        public_allowed question valid history move found,
        follows_next reply history move fits.1 (λ theirs. same_move-itself move),
        chosen-push question support valid taken (takes question support valid prices scale dual proper all) history
            move
            ∙ both_true (is_chosen history)
            (if declarer_chooses question history then same_class_move (taken history) move else true) fits.2 moved.1,
        λ other there.
            let before = allowing_before question valid history move other there in
            elim (fits.3 other before.0) [
              | inl at ↦ inl (reached_next question support other.0 history move at (each other))
              | inr none ↦ inr (mass_stays other history move not_theirs ∙ none)
            ],
      ) in
      subst (λ (z : ℤ). z ≤ℤ held_in_all (suc more) history) (own_worth history fits.0 own)
      (le_trans (worth reply (history ++ move ∷ [])) (held_in_all more (history ++ move ∷ []))
      (held_in_all (suc more) history) (next move on)
      (subst (λ (l : List (ClassLayout × ℕ)). sum_of (map (held more (history ++ move ∷ [])) l)
      ≤ℤ held_in_all (suc more) history) (sym (layouts_kept history move not_over own moved.0))
      (sum_le (held more (history ++ move ∷ [])) (held (suc more) history) (reached_layouts question support history)
      (λ other there. held_falls more history move other
      (layout_parts question support valid prices scale dual proper all history other there).1
      (none_theirs question other.0 history not_theirs) (each other)))))

  -- ---- a turn of the defence

  -- the moves of a class layout among those with which a class history goes on
  public_kept : (history : List ClassMove) (layout : ClassLayout × ℕ)
      → Contains (reached_layouts question support history) layout
      → class_decided (class_after question history) ≡ false
      → filter (is_among (supported_moves question support layout.0 history)) (public_moves question history)
      ≡ supported_moves question support layout.0 history
  public_kept history layout found not_over =
      let parts = layout_parts question support valid prices scale dual proper all history layout found in
      let moves : List ClassMove = supported_moves question support layout.0 history in
      let some : ClassMove → Bool = λ move. some_allows question (history ++ move ∷ []) in
      ap (filter (is_among moves)) (public_going question valid history not_over)
      ∙ filter-filter some (is_among moves) every_move
      ∙ filter_agree (λ move. some move && is_among moves move) (is_among moves)
      (λ move. both_second (some move) (is_among moves move)
      (λ among. public_allowed question valid history move
      (public_held question support valid prices scale dual proper all layout parts.0 history move parts.1
      (among-Contains moves move among)))) every_move
      ∙ sym (supported_all question support layout.0 history)

  -- what the moves hold declarer to, class layout by class layout
  held_shared : (more : ℕ) (history : List ClassMove) → class_decided (class_after question history) ≡ false
      → sum_of (map (λ move. held_in_all more (history ++ move ∷ [])) (public_moves question history))
      ≡ sum_of (map (λ (layout : ClassLayout × ℕ). sum_of (map (λ move. held more (history ++ move ∷ []) layout)
      (supported_moves question support layout.0 history))) (reached_layouts question support history))
  held_shared more history not_over =
      let moves : List ClassMove = public_moves question history in
      let layouts : List (ClassLayout × ℕ) = reached_layouts question support history in
      let goes : ClassMove → ClassLayout × ℕ → ℤ = λ move layout.
      if is_among (supported_moves question support layout.0 history) move
      then held more (history ++ move ∷ []) layout else pos 0 in
      ap sum_of (map_same (λ move. held_in_all more (history ++ move ∷ []))
      (λ move. sum_of (map (goes move) layouts)) moves
      (λ move found. ap (λ (l : List (ClassLayout × ℕ)). sum_of (map (held more (history ++ move ∷ [])) l))
      (sym (layouts_next question support history move))
      ∙ sum_kept (λ (layout : ClassLayout × ℕ). is_among (supported_moves question support layout.0 history) move)
      (held more (history ++ move ∷ [])) layouts))
      ∙ sums_exchanged goes moves layouts
      ∙ ap sum_of (map_same (λ layout. sum_of (map (λ move. goes move layout) moves))
      (λ (layout : ClassLayout × ℕ). sum_of (map (λ move. held more (history ++ move ∷ []) layout)
      (supported_moves question support layout.0 history))) layouts
      (λ layout there. sym (sum_kept (is_among (supported_moves question support layout.0 history))
      (λ move. held more (history ++ move ∷ []) layout) moves)
      ∙ ap (λ (l : List ClassMove). sum_of (map (λ move. held more (history ++ move ∷ []) layout) l))
      (public_kept history layout there not_over)))

  -- in a class layout at a choice of the defence
  choice_held : (more : ℕ) (history : List ClassMove) (layout : ClassLayout × ℕ)
      → suc more ≡ MOST_MOVES - length history
      → defence_chooses question layout.0 history ≡ true
      → sum_of (map (λ move. held more (history ++ move ∷ []) layout)
      (supported_moves question support layout.0 history)) ≡ held (suc more) history layout
  unfolding play_sum
  choice_held more history layout left chooses =
      let west : ClassLayout = layout.0 in
      let moves : List ClassMove = supported_moves question support west history in
      let worths : ClassMove → ℤ = λ move. price west history move *ℤ worth_z (suc more) west (history ++ move ∷ []) in
      let plays : ClassMove → ℤ = λ move. play more layout (history ++ move ∷ []) in
      let each : sum_of (map (λ move. held more (history ++ move ∷ []) layout) moves)
      ≡ sum_of (map (λ move. worths move -ℤ plays move) moves) =
      ap sum_of (map_same (λ move. held more (history ++ move ∷ []) layout) (λ move. worths move -ℤ plays move) moves
      (λ move found. ap (λ (z : ℤ). z *ℤ worth_z (suc more) west (history ++ move ∷ []) -ℤ plays move)
      (bound_price question support valid prices scale dual proper all west history move chooses found))) in
      let parted = sum_less worths plays moves in
      let none : worth_z (suc (suc more)) west history ≡ pos 0 =
      choosing question support point west (suc more) history chooses
      ∙ point_held question support valid prices scale dual proper all west history in
      finish (sum_of (map (λ move. held more (history ++ move ∷ []) layout) moves))
      (sum_of (map (λ move. worths move -ℤ plays move) moves)) (sum_of (map worths moves)) (sum_of (map plays moves))
      (bound west history) (worth_z (suc (suc more)) west history) (part history layout) each parted none
      (part_choice question support valid prices scale dual proper all (suc more) history layout chooses
      (λ move. room_left history move more left))
    where
      finish : (x y w p b v r : ℤ) → x ≡ y → y ≡ w -ℤ p → v ≡ pos 0 → r ≡ pos 0 -ℤ w → x ≡ b *ℤ v -ℤ (r +ℤ p)
      finish x y w p b v r each parted none turned =
          let product : b *ℤ v ≡ b *ℤ pos 0 = ap (λ (z : ℤ). b *ℤ z) none in
          omega (arith, ints, each, parted, product, turned)

  turn_held : (more : ℕ) (history : List ClassMove) (layout : ClassLayout × ℕ) → suc more ≡ MOST_MOVES - length history
      → is_reached question support layout.0 history ≡ true
      → is_declarers (class_turn (class_after question history)) ≡ false
      → TurnAt question support layout.0 history
      → sum_of (map (λ move. held more (history ++ move ∷ []) layout)
      (supported_moves question support layout.0 history)) ≤ℤ held (suc more) history layout
  unfolding sum_of
  turn_held more history layout left reached not_own_turn (Ended over none waits) =
      subst (λ (l : List ClassMove). sum_of (map (λ move. held more (history ++ move ∷ []) layout) l)
      ≤ℤ held (suc more) history layout) (sym none)
      (held_low question support valid prices scale dual proper all (suc more) history layout reached)
  turn_held more history layout left reached not_own_turn (Forced move alone one nobody same) =
      subst (λ (l : List ClassMove). sum_of (map (λ other. held more (history ++ other ∷ []) layout) l)
      ≤ℤ held (suc more) history layout) (sym one)
      (subst (λ (z : ℤ). z ≤ℤ held (suc more) history layout) (sym (only_one (held more (history ++ move ∷ []) layout)))
      (held_falls more history move layout reached nobody.1
      (Contains-same move (sym one) (Contains-first move []))))
  turn_held more history layout left reached not_own_turn (Own chooses waits same some) =
      absurd (false≢true (sym (not_own question support point history not_own_turn) ∙ chooses))
  turn_held more history layout left reached not_own_turn (Theirs chooses some same) =
      subst (λ (z : ℤ). z ≤ℤ held (suc more) history layout) (sym (choice_held more history layout left chooses))
      (itself (held (suc more) history layout))
    where
      itself : (z : ℤ) → z ≤ℤ z
      itself z = omega (arith, ints)

  -- a move of the defence's that is not in the support gets nothing, nor does one where nothing came
  traced_next : (history : List ClassMove) (move : ClassMove) → IsTraced history
      → class_decided (class_after question history) ≡ false
      → is_defences (class_turn (class_after question history)) ≡ true → IsTraced (history ++ move ∷ [])
  traced_next history move traced not_over theirs layout there =
      let before = allowing_before question valid history move layout there in
      let listed = (allowing_parts question valid history layout before.0).0 in
      elim (traced layout before.0) [
        | inl reached ↦ elim (cases_Bool (is_among (supported_moves question support layout.0 history) move)) [
          | inl among ↦ inl (reached_next question support layout.0 history move reached
              (among-Contains (supported_moves question support layout.0 history) move among))
          | inr out ↦ inr (unsupported_none question support valid prices scale dual layout listed history move reached
              theirs not_over before.1 (λ found. false≢true (sym out
              ∙ among_contained (supported_moves question support layout.0 history) move found)))
        ]
        | inr none ↦ inr (none_next layout listed history move before.0 before.1 there none)
      ]

  theirs_under : (more : ℕ) (history : List ClassMove) → IsGoing history → suc more ≡ MOST_MOVES - length history
      → class_decided (class_after question history) ≡ false
      → is_declarers (class_turn (class_after question history)) ≡ false
      → is_defences (class_turn (class_after question history)) ≡ true
      → NextUnder more history → IsUnder (suc more) history
  theirs_under more history fits left not_over not_own_turn theirs next =
      let moves : List ClassMove = public_moves question history in
      let worths = defences_at_defences question read history valid fits.0 theirs in
      let waits = not_own question support point history not_own_turn in
      subst (λ (z : ℤ). z ≤ℤ held_in_all (suc more) history) (sym worths)
      (le_trans (sum_of (map (λ move. worth reply (history ++ move ∷ [])) moves))
      (sum_of (map (λ move. held_in_all more (history ++ move ∷ [])) moves)) (held_in_all (suc more) history)
      (sum_le (λ move. worth reply (history ++ move ∷ [])) (λ move. held_in_all more (history ++ move ∷ [])) moves
      (λ move found. next move (
        public_allowed question valid history move found,
        follows_next reply history move fits.1 (λ own. absurd (false≢true (sym not_own_turn ∙ own))),
        chosen-push question support valid taken (takes question support valid prices scale dual proper all) history
            move
            ∙ both_true (is_chosen history)
            (if declarer_chooses question history then same_class_move (taken history) move else true) fits.2
            (ap (λ (b : Bool). if b then same_class_move (taken history) move else true) waits),
        traced_next history move fits.3 not_over theirs,
      )))
      (subst (λ (z : ℤ). z ≤ℤ held_in_all (suc more) history) (sym (held_shared more history not_over))
      (sum_le (λ (layout : ClassLayout × ℕ). sum_of (map (λ move. held more (history ++ move ∷ []) layout)
      (supported_moves question support layout.0 history))) (held (suc more) history)
      (reached_layouts question support history)
      (λ layout there. turn_held more history layout left
      (layout_parts question support valid prices scale dual proper all history layout there).1 not_own_turn
      (turn_at question support layout.0 history)))))

  -- ---- all turns

  dead_masses : (history : List ClassMove) → reply.live history ≡ false → (layout : ClassLayout × ℕ)
      → Contains (allowing_layouts question history) layout → mass layout.0 history ≡ pos 0
  dead_masses history dead layout there =
      let low = mass_positive question read valid proper history layout there in
      nothing (mass layout.0 history) low (int_lt-false (pos 0) (mass layout.0 history)
      (none_there (λ (other : ClassLayout × ℕ). int_lt (pos 0) (mass other.0 history))
      (allowing_layouts question history)
      layout dead there))
    where
      nothing : (x : ℤ) → pos 0 ≤ℤ x → x ≤ℤ pos 0 → x ≡ pos 0
      nothing x p q = omega (arith, ints, p, q)

      none_there : {X : Type 0} (test : X → Bool) (xs : List X) (x : X) → list_any test xs ≡ false → Contains xs x
          → test x ≡ false
      none_there test xs x none found =
          false_from_ne_true (test x) (λ passes. false≢true (sym none ∙ passing_some test xs x found passes))

  turn_under : (more : ℕ) (history : List ClassMove) → IsGoing history → suc more ≡ MOST_MOVES - length history
      → NextUnder more history → reply.live history ≡ true → WhoseTurn (class_after question history)
      → IsUnder (suc more) history
  turn_under more history fits left next live (Over decided turn) =
      over_under question support valid prices scale dual proper all (suc more) history fits.2 fits.3 decided
      (ap is_defences turn)
  turn_under more history fits left next live (Defences not_over not_own_turn theirs) =
      theirs_under more history fits left not_over not_own_turn theirs next
  turn_under more history fits left next live (Declarers not_over own not_theirs) =
      let some = some_passing (λ (layout : ClassLayout × ℕ). int_lt (pos 0) (mass layout.0 history))
      (allowing_layouts question history) live in
      let lives = int_lt-true (pos 0) (mass some.0.0 history) some.2 in
      own_under more history fits live not_over own not_theirs some.0
      (allowing_parts question valid history some.0 some.1).0
      (elim (fits.3 some.0 some.1) [
        | inl reached ↦ reached
        | inr none ↦ absurd (omega (arith, ints, none, lives))
      ]) next

  -- play with no move left is over
  last_under : (history : List ClassMove) → IsGoing history → 0 ≡ MOST_MOVES - length history
      → WhoseTurn (class_after question history) → IsUnder 0 history
  last_under history fits left (Over decided turn) =
      over_under question support valid prices scale dual proper all 0 history fits.2 fits.3 decided
      (ap is_defences turn)
  last_under history fits left (Defences not_over not_own_turn theirs) =
      let short = room question read valid history fits.0 not_over in absurd (omega (arith, left, short))
  last_under history fits left (Declarers not_over own not_theirs) =
      let short = room question read valid history fits.0 not_over in absurd (omega (arith, left, short))

  all_under : (more : ℕ) (history : List ClassMove) → IsGoing history → more ≡ MOST_MOVES - length history
      → IsUnder more history
  all_under zero history fits left = last_under history fits left (whose_turn (class_after question history))
  all_under (suc more) history fits left = elim (cases_Bool (reply.live history)) [
    | inr dead ↦ dead_under question support valid prices scale dual proper all (suc more) history fits.0
        (dead_masses history dead)
    | inl live ↦ turn_under more history fits left
        (λ move on. all_under more (history ++ move ∷ []) on (more_left history move more left)) live
        (whose_turn (class_after question history))
  ]

  -- the most of the defence is at most what the game of the support is worth
  pub defence_holds : (value : ℤ)
      → dot prices (number_at (map (λ row. row.bound) (program_of question support).rows)) ≡ value
      → most question read ≤ℤ supported_worth question support value scale
  unfolding most follows read_mass read_from objective_at reached_layouts
  defence_holds value is =
      let layouts : List (ClassLayout × ℕ) = layouts_of question in
      let worths : ClassLayout × ℕ → ℤ = λ layout. pos layout.1 *ℤ worth_z (suc MOST_MOVES) layout.0 [] in
      let plays : ClassLayout × ℕ → ℤ = λ layout. play MOST_MOVES layout [] in
      let under = all_under MOST_MOVES [] (
        some_allow_none question valid,
        refl,
        chosen_none question support valid taken (takes question support valid prices scale dual proper all),
        λ layout there. inl (reached_none question support layout.0),
      ) refl in
      let start : held_in_all MOST_MOVES [] ≡ sum_of (map (λ layout. scale *ℤ worths layout -ℤ plays layout) layouts) =
      ap (λ (l : List (ClassLayout × ℕ)). sum_of (map (held MOST_MOVES []) l))
      (filter_all (λ (layout : ClassLayout × ℕ). is_reached question support layout.0 []) layouts
      (λ layout. reached_none question support layout.0))
      ∙ ap sum_of (map_same (held MOST_MOVES []) (λ layout. scale *ℤ worths layout -ℤ plays layout) layouts
      (λ layout found. ap (λ (z : ℤ). z -ℤ plays layout)
      (weighed (weight_of question layout.0) layout.1 (worth_z (suc MOST_MOVES) layout.0 [])
      (weight_listed question layout found)))) in
      let parted = sum_less (λ layout. scale *ℤ worths layout) plays layouts in
      let times = sum_times scale worths layouts in
      let exceeded = exceeds_by_play question support prices scale dual point
      (λ history found. taken_tight question support valid taken
      (takes question support valid prices scale dual proper all) history found) in
      let most_value = points_bounded question support prices scale dual value
      (taken_columns question support valid taken (takes question support valid prices scale dual proper all)) is
      (λ column found. taken_listed question support valid taken
      (takes question support valid prices scale dual proper all) column found) in
      finish (worth reply []) (held_in_all MOST_MOVES [])
      (sum_of (map (λ layout. scale *ℤ worths layout -ℤ plays layout) layouts))
      (sum_of (map (λ layout. scale *ℤ worths layout) layouts)) (sum_of (map plays layouts))
      (scale *ℤ sum_of (map worths layouts)) (exceeds question support prices scale dual point)
      (supported_worth question support value scale) under start parted times exceeded most_value
    where
      weighed : (w v : ℕ) (x : ℤ) → v ≡ w → pos w *ℤ scale *ℤ x ≡ scale *ℤ (pos v *ℤ x)
      weighed w v x same =
          ap (λ (z : ℤ). z *ℤ x) (*ℤ_comm (pos w) scale) ∙ mul_assoc scale (pos w) x
          ∙ ap (λ (n : ℕ). scale *ℤ (pos n *ℤ x)) (sym same)

      finish : (m h s w p t e v : ℤ) → m ≤ℤ h → h ≡ s → s ≡ w -ℤ p → t ≡ w → e ≡ p → t ≤ℤ (e +ℤ v) → m ≤ℤ v
      finish m h s w p t e v under start parted times exceeded most_value =
          omega (arith, ints, under, start, parted, times, exceeded, most_value)
