-- What stands at a class history for a class layout, as what reads a defence takes it: nothing where it is not reached
-- (`none_reached`) or has no choice (`waits_told`), and else the prices of its answers (`first_within`, `moves_within`,
-- `counts_told`).
use Rattle.std.proofs.Common.{◌≡◌, ℕ, ◌+◌, ◌<◌, ◌≤◌, Bool, true, false, List, length, map, take, drop}
use Rattle.std.proofs.Common.{get_or, refl, sym, ap, ◌∙◌, subst, arith, Some, None, inl, inr}
use Rattle.std.specs.Prelude.{Contains, if◌then◌else◌, ℤ}
use Rattle.std.specs.List.{flat_map}
use Rattle.std.proofs.lemmas.Bool.{cases_Bool}
use Rattle.std.proofs.lemmas.List.{get_or-map, length-map}
use Rattle.std.proofs.lemmas.List.Elements.{Contains-get_or}
use Rattle.suit_lists.proofs.Elements.{Contains-same}
use Rattle.suit_lists.proofs.Filters.{Contains-filter}
use Rattle.suit_lists.proofs.Walks.{Contains-range}
use Rattle.suit_cards.specs.Cards.{ClassLayout}
use Rattle.suit_game.specs.declared.question.Question.{Question}
use Rattle.suit_classes.specs.declared.class_moves.ClassMove.{ClassMove}
use Rattle.suit_classes.specs.ClassMoves.{ClassHistory}
use Rattle.suit_classes.specs.ClassPlaces.{class_after, class_turn}
use Rattle.suit_plans.specs.Masses.{Shares, is_defences}
use Rattle.suit_plans.specs.ReplyLaws.{counts_at}
use Rattle.suit_tree.specs.Trees.{layout_indices}
use Rattle.suit_program.specs.declared.walks.defence_reader.DefenceReader.{DefenceReader}
use Rattle.suit_program.specs.declared.walks.reach.Reach.{Reach}
use Rattle.suit_program.specs.declared.walks.reach.ReachedLayout.{ReachedLayout}
use Rattle.suit_program.specs.Walks.AnswerRows.{IsLayoutAt, layout_at}
use Rattle.suit_program.specs.Walks.DefenceWalks.{IsDefenceTurn, turn_shares}
use Rattle.suit_program.specs.Walks.PlanWalks.{shares_here}
use Rattle.suit_program.specs.Programs.{Answered, answered_limits, limits, limits_at}
use Rattle.suit_program.specs.Walks.Reaches.{reached_indices}
use Rattle.suit_program.specs.Readings.{Reading, defence_reading, filled, price_of, read_shares}
use Rattle.suit_program.specs.Readings.Sharing.{counted}
use Rattle.suit_program.specs.Supports.{Support, defence_chooses, is_reached, layouts_of, reached_layouts}
use Rattle.suit_program.specs.Supports.{supported_moves}
use Rattle.suit_program.specs.Walks.{StandsIn}
use Rattle.suit_program.proofs.lemmas.Walks.HowManyAnswers.{answers_chosen, answers_stand}
use Rattle.suit_program.proofs.lemmas.Supports.AtAChoice.{their_place}
use Rattle.suit_program.proofs.lemmas.Walks.DefenceAtATurn.{prices_here}
use Rattle.suit_program.proofs.lemmas.Programs.RowsComeOnce.{limits_once}
use Rattle.suit_program.proofs.lemmas.Programs.WithinTheRows.{their_only}
use Rattle.suit_program.proofs.lemmas.Walks.NodesBelow.{index_parts}
use Rattle.suit_program.proofs.lemmas.Walks.WhatAWalkGathers.{stands_here}

module _ (reader : DefenceReader) (reach : Reach) (row : ℕ) (mass : ℤ)
    (turn : IsDefenceTurn reader reach row mass) where
  abbrev q : Question
  q = turn.question

  abbrev s : Support
  s = turn.support

  abbrev h : ClassHistory
  h = turn.history

  abbrev west : ClassLayout
  west = counts_at q reader.index

  abbrev prices : List ℤ
  prices = reader.prices.now

  abbrev reading : Reading
  reading = defence_reading q s prices turn.scale reader.west.now

  -- ---- no shares

  pub none_reached : (Contains (map (λ (layout : ReachedLayout). layout.index) reach.layouts.items) reader.index → ⊥)
      → None ≡ turn_shares turn
  unfolding reached_indices
  none_reached none = elim (cases_Bool (is_reached q s reader.west.now h)) [
    | inl there ↦ absurd (none (Contains-same reader.index (sym turn.reached.layouts)
        (Contains-filter (λ index. is_reached q s (counts_at q index) h) (layout_indices (layouts_of q)) reader.index
        (Contains-range 0 (length (layouts_of q)) reader.index (omega arith) (omega (arith, turn.listed)))
        (ap (λ (w : ClassLayout). is_reached q s w h) (sym turn.west) ∙ there))))
    | inr not ↦ ap (λ (b : Bool). if b then shares_here reading h else None) (sym not)
  ]

  -- ---- where the class layout stands

  module _ (place : ℕ) (stands : IsLayoutAt reach.layouts.items place reader.index) where
    pub place_listed : Contains (reached_indices q s h) reader.index
    place_listed =
        let index : ReachedLayout → ℕ = λ layout. layout.index in
        Contains-same reader.index turn.reached.layouts
        (subst (Contains (map index reach.layouts.items)) stands.is
        (Contains-get_or (map index reach.layouts.items) place 0
        (subst (λ (n : ℕ). place < n) (sym (length-map reach.layouts.items index)) stands.below)))

    pub layout_is : (d : ReachedLayout) → (get_or reach.layouts.items place d).index ≡ reader.index
    layout_is d =
        let index : ReachedLayout → ℕ = λ layout. layout.index in
        sym (get_or-map index reach.layouts.items place d 0 stands.below) ∙ stands.is

    there : is_reached q s reader.west.now h ≡ true
    there = ap (λ (w : ClassLayout). is_reached q s w h) turn.west
        ∙ (index_parts q s h reader.index place_listed).1

    pub waits_told : defence_chooses q west h ≡ false → None ≡ turn_shares turn
    waits_told waits =
        ap (λ (b : Bool). if b then Some (read_shares reading h) else None)
        (sym (ap (λ (w : ClassLayout). defence_chooses q w h) turn.west ∙ waits))
        ∙ ap (λ (b : Bool). if b then shares_here reading h else None) (sym there)

    -- ---- the prices of its answers

    module _ (chooses : defence_chooses q west h ≡ true) where
      abbrev pub before : ℕ
      before = length (flat_map (answered_limits q s h) (take place (reached_layouts q s h)))

      -- what the walk answers there
      pub answers_told : (layout : ReachedLayout) → layout ≡ get_or reach.layouts.items place layout
          → (moves : List ClassMove)
          → (Contains reach.layouts.items layout → is_defences (class_turn (class_after q h)) ≡ true
          → moves ≡ supported_moves q s (counts_at q layout.index) h) → moves ≡ supported_moves q s west h
      answers_told layout is moves told =
          told (subst (Contains reach.layouts.items) (sym is) (Contains-get_or reach.layouts.items place layout
          stands.below)) (their_place q s west h chooses).0
          ∙ ap (λ (n : ℕ). supported_moves q s (counts_at q n) h)
          (ap (λ (l : ReachedLayout). l.index) is ∙ layout_is layout)

      answers_there : (moves : List ClassMove) → moves ≡ supported_moves q s west h → (d : ReachedLayout)
          → StandsIn (limits q s) (row + before) (map (Answered west h) moves)
      answers_there moves is d =
          let index : ReachedLayout → ℕ = λ layout. layout.index in
          subst (StandsIn (limits q s) (row + before))
          (ap (λ (n : ℕ). answered_limits q s h (layout_at q n)) (layout_is d)
          ∙ answers_chosen q s h reader.index moves chooses is)
          (answers_stand q s h reach turn.reached (limits q s) row place d stands.below (their_only q west h chooses)
          (stands_here (limits_at q s) q s h reach turn.reached (limits q s) row turn.rows))

      module _ (moves : List ClassMove) (is : moves ≡ supported_moves q s west h) (d : ReachedLayout) (first : ℕ)
          (starts : first ≡ row + before) where
        pub moves_within : first + length moves ≤ length prices
        moves_within =
            let within = (answers_there moves is d).within in
            omega (arith, within, starts, turn.long, length-map moves (Answered west h))

        pub counts_told : (cut : List ℤ) → cut ≡ take (length moves) (drop first prices)
            → counted moves cut ≡ map (λ move. (move, price_of (limits q s) prices reader.west.now h move))
            (supported_moves q s reader.west.now h)
        counts_told cut is_cut =
            let stood = answers_there moves is d in
            ap (counted moves) (is_cut ∙ ap (λ (n : ℕ). take (length moves) (drop n prices)) starts)
            ∙ prices_here (limits q s) prices west h moves (row + before) stood.rest (limits_once q s) turn.long
            stood.from
            (subst (λ (n : ℕ). row + before + n ≤ length (limits q s))
            (length-map moves (Answered west h)) stood.within)
            ∙ ap (map (λ move. (move, price_of (limits q s) prices west h move))) is
            ∙ ap (λ (w : ClassLayout). map (λ move. (move, price_of (limits q s) prices w h move))
            (supported_moves q s w h))
            (sym turn.west)

        pub shares_told : (cut : List ℤ) → cut ≡ take (length moves) (drop first prices) → (shares : Shares)
            → shares ≡ filled mass (counted moves cut) → Some shares ≡ turn_shares turn
        shares_told cut is_cut shares filling =
            ap Some (filling ∙ ap (filled mass) (counts_told cut is_cut)
            ∙ ap (λ (z : ℤ). filled z (map (λ move. (move, price_of (limits q s) prices reader.west.now h move))
            (supported_moves q s reader.west.now h))) (turn.is_mass there))
            ∙ ap (λ (b : Bool). if b then Some (read_shares reading h) else None)
            (sym (ap (λ (w : ClassLayout). defence_chooses q w h) turn.west ∙ chooses))
            ∙ ap (λ (b : Bool). if b then shares_here reading h else None) (sym there)

      -- the answers before it end within the prices
      pub first_within : (n : ℕ) → n ≡ before → row + n ≤ length prices
      first_within n is =
          let d : ReachedLayout = get_or reach.layouts.items place (record { index = 0; named = None }) in
          let within = (answers_there (supported_moves q s west h) refl d).within in
          omega (arith, within, is, turn.long)
