-- What each class layout holds declarer to at the prices, and where play is over (`over_under`).
use Rattle.std.proofs.Common.{◌≡◌, ◌⊎◌, ℕ, zero, suc, ◌-◌, ◌≤◌, Bool, true, false, List, [], ◌∷◌, ◌++◌, length}
use Rattle.std.proofs.Common.{map, refl, sym, ap, ◌∙◌, subst, inl, inr, arith}
use Rattle.std.specs.Prelude.{Contains, ◌&&◌, nat_lt, not, if◌then◌else◌, ℤ, pos, ◌+ℤ◌, ◌-ℤ◌, ◌*ℤ◌, ◌≤ℤ◌}
use Rattle.std.specs.List.{list_any}
use Rattle.std.proofs.lemmas.Bool.{and_parts, false≢true, or_parts}
use Rattle.std.proofs.lemmas.Int.{ints}
use Rattle.std.proofs.lemmas.List.Elements.{recursion_from_All}
use Rattle.std.proofs.Math.IntN.{*ℤ_comm}
use Rattle.suit_lists.proofs.Elements.{Contains-cons_cases, Contains-first, Contains-later, Contains-nil}
use Rattle.suit_lists.proofs.Filters.{Contains-filter, kept_parts}
use Rattle.suit_lists.proofs.Firsts.{HasFirst}
use Rattle.suit_lists.proofs.Maps.{Contains-map, map_same}
use Rattle.suit_lists.proofs.Tests.{none_fails}
use Rattle.suit_cards.specs.Cards.{ClassLayout}
use Rattle.suit_num.proofs.IntegerLaws.{le-mul_right, mul-sub_left, mul_not_negative}
use Rattle.suit_game.specs.declared.question.Question.{Question}
use Rattle.suit_game.specs.Validity.{IsValid}
use Rattle.suit_game.specs.declared.limits.TheConstants.{MOST_MOVES}
use Rattle.suit_classes.specs.declared.class_moves.ClassMove.{ClassMove}
use Rattle.suit_classes.specs.WhatIsAllowed.{allows, is_among}
use Rattle.suit_classes.specs.ClassPlaces.{class_after, class_decided, class_moves, class_payoff, class_turn}
use Rattle.suit_classes.proofs.DecidedStaysDecided.{class_histories_are_short}
use Rattle.suit_classes.proofs.SameMoves.{among-Contains}
use Rattle.suit_plans.specs.declared.defence.Defence.{Defence}
use Rattle.suit_plans.specs.declared.moves.DeclarerMove.{DeclarerMove}
use Rattle.suit_plans.specs.BestReplies.{Reply, allowing_layouts, choices, first_of, follows, has_choice}
use Rattle.suit_plans.specs.BestReplies.{histories_within}
use Rattle.suit_plans.specs.BestReplies.{is_reached as reply_reaches, most_reply, public_moves, reply_move}
use Rattle.suit_plans.specs.BestReplies.{reply_to_defence, worth}
use Rattle.suit_plans.specs.Masses.{count_of, defence_mass, is_declarers, is_defences, weight_of}
use Rattle.suit_plans.specs.Properness.{IsProperDefence, some_allows, sum_of}
use Rattle.suit_plans.proofs.DefenceWorths.{defences_at_decided, no_masses_no_worth}
use Rattle.suit_plans.proofs.NumberSums.{sum_kept, sum_times}
use Rattle.suit_plans.proofs.PublicMoves.{Contains-allowing, Contains-public, own_moves_on}
use Rattle.suit_plans.proofs.SharesAddUpToTheMass.{sum_positive}
use Rattle.suit_plans.proofs.WhoseTurns.{own_turn}
use Rattle.suit_linear.specs.Programs.{IsDualFeasible}
use Rattle.suit_program.specs.Programs.Points.{Held, IsPositive, Point}
use Rattle.suit_program.specs.Programs.{limits, program_of}
use Rattle.suit_program.specs.Readings.{Reading, defence_of, defence_reading, price_of, read_from, read_mass}
use Rattle.suit_program.specs.Readings.{read_shares}
use Rattle.suit_program.specs.Supports.{Support, are_new, declarer_chooses, defence_chooses, first_and, is_reached}
use Rattle.suit_program.specs.Supports.{layouts_of, legal_moves, names, reached_layouts, supported_moves}
use Rattle.suit_program.specs.Programs.Worths.{worth_at, worth_within}
use Rattle.suit_program.proofs.lemmas.Programs.ObjectiveIsBounded.{given_low}
use Rattle.suit_program.proofs.lemmas.Supports.AtAChoice.{own_place}
use Rattle.suit_program.proofs.lemmas.Readings.PricesCoverTheMass.{filled_most, negated, sum_none_more}
use Rattle.suit_program.proofs.lemmas.Programs.WorthAtPrices.{part_of}
use Rattle.suit_program.proofs.lemmas.Programs.PricesByName.{price_low}
use Rattle.suit_program.proofs.lemmas.Supports.WhatIsReached.{reached_allows, reached_fits, reached_next, reached_none}
use Rattle.suit_program.proofs.lemmas.Readings.DefenceIsProper.{defence_masses, none_theirs}
use Rattle.suit_program.proofs.lemmas.Readings.MassesNoLess.{read_mass-push}
use Rattle.suit_program.proofs.lemmas.Programs.SumsInOrder.{sum_le}
use Rattle.suit_program.proofs.lemmas.Supports.HasTheReply.{both_true, goes_within}
use Rattle.suit_program.proofs.lemmas.Supports.TurnCases.{count_found, legal_going, own_legal}
use Rattle.suit_program.proofs.lemmas.Supports.TurnCases.{supported_class_move, supported_going}
use Rattle.suit_program.proofs.lemmas.Programs.OneMoveEach.{chosen, taken_columns, taken_held}
use Rattle.suit_program.proofs.lemmas.Programs.OneMoveEach.{taken_masses, taken_point}
use Rattle.suit_program.proofs.lemmas.Supports.SumsByPlay.{play_sum}
use Rattle.suit_program.proofs.lemmas.Programs.WorthWithinMass.{going, within_low}

-- ---- lists

pub sum_under_one : {X : Type 0} (f : X → ℤ) (xs : List X) (x : X) → Contains xs x
    → ((y : X) → Contains xs y → f y ≤ℤ pos 0) → sum_of (map f xs) ≤ℤ f x
unfolding sum_of
sum_under_one f [] x found low = absurd (Contains-nil x found)
sum_under_one {X} f (first ∷ xs) x found low = elim (Contains-cons_cases first xs x found) [
  | inl here ↦
      let rest = sum_none_more f xs (λ y there. low y (Contains-later first xs y there)) in
      subst (λ (y : X). (f first +ℤ sum_of (map f xs)) ≤ℤ f y) here (before (f first) (sum_of (map f xs)) rest)
  | inr there ↦
      let rest = sum_under_one f xs x there (λ y later. low y (Contains-later first xs y later)) in
      after (f first) (sum_of (map f xs)) (f x) (low first (Contains-first first xs)) rest
]
  where
    before : (x y : ℤ) → y ≤ℤ pos 0 → (x +ℤ y) ≤ℤ x
    before x y p = omega (arith, ints, p)

    after : (x y z : ℤ) → x ≤ℤ pos 0 → y ≤ℤ z → (x +ℤ y) ≤ℤ z
    after x y z p q = omega (arith, ints, p, q)

first_found : (moves : List ClassMove) → HasFirst moves → Contains moves (first_of moves)
first_found [] some = absurd (nothing some.parts)
  where
    nothing : [] ≡ some.first ∷ some.more → ⊥
    nothing is = cc
first_found (move ∷ moves) some = Contains-first move moves

taken_case : (b : Bool) (moves : List ClassMove) (move : ClassMove) → is_among moves move ≡ b → HasFirst moves
    → Contains moves (if b then move else first_of moves)
taken_case true moves move among some = among-Contains moves move among
taken_case false moves move among some = first_found moves some

module _ (question : Question) (support : Support) (valid : IsValid question) (prices : List ℤ) (scale : ℤ)
    (dual : IsDualFeasible (program_of question support) prices scale)
    (proper : IsProperDefence question (defence_of question support prices scale))
    (all : are_new question support (most_reply question (defence_of question support prices scale)) [] ≡ false) where
  abbrev pub read : Defence
  read = defence_of question support prices scale

  abbrev pub reply : Reply
  reply = reply_to_defence question read

  -- the move of the reply where it is in the support, and else the first
  abbrev pub taken : List ClassMove → ClassMove
  taken history = if is_among (supported_moves question support [] history) (reply_move reply history)
      then reply_move reply history else first_of (supported_moves question support [] history)

  pub takes : (history : List ClassMove) → declarer_chooses question history ≡ true
      → Contains (supported_moves question support [] history) (taken history)
  takes history chooses =
      let choice = (own_place question support history chooses).1 in
      taken_case (is_among (supported_moves question support [] history) (reply_move reply history))
      (supported_moves question support [] history) (reply_move reply history) refl
      (record { first = choice.first; more = _; parts = choice.supported })

  abbrev pub point : Point
  point = taken_point question support valid taken takes

  abbrev pub is_chosen : List ClassMove → Bool
  is_chosen history = chosen question support valid taken takes history

  pub point_positive : IsPositive point
  point_positive = record {
    at = λ column. given_low (taken_columns question support valid taken takes) (λ index. pos 1) column
        (λ index below. omega (arith, ints));
    one = omega (arith, ints);
  }

  -- ---- the reply's moves

  named : (entry : DeclarerMove) → Contains (most_reply question read) entry
      → is_among (supported_moves question support [] entry.history) entry.mv ≡ true
  unfolding are_new
  named entry found =
      none_fails (λ (other : DeclarerMove). is_among (supported_moves question support [] other.history) other.mv)
      (most_reply question read) entry
      (or_parts (list_any (λ (other : DeclarerMove). not (is_among (supported_moves question support [] other.history)
      other.mv)) (most_reply question read)) false all).0 found

  pub public_held : (layout : ClassLayout × ℕ) → Contains (layouts_of question) layout → (history : List ClassMove)
      (move : ClassMove) → is_reached question support layout.0 history ≡ true
      → Contains (supported_moves question support layout.0 history) move
      → Contains (public_moves question history) move
  public_held layout listed history move reached found =
      Contains-public question valid history (supported_going question support layout.0 history move found) layout
      (Contains-allowing question valid history layout listed
      (reached_allows question support valid layout listed history reached)) move
      (supported_class_move question support layout.0 history move found)

  -- at a choice of declarer's that is reached and alive it is in the support
  pub own_named : (layout : ClassLayout × ℕ) → Contains (layouts_of question) layout → (history : List ClassMove)
      → is_reached question support layout.0 history ≡ true → declarer_chooses question history ≡ true
      → follows reply [] history ≡ true → reply.live history ≡ true
      → is_among (supported_moves question support [] history) (reply_move reply history) ≡ true
  unfolding most_reply choices is_reached declarer_chooses
  own_named layout listed history reached chooses goes live =
      let view = class_after question history in
      let own = (and_parts (is_declarers (class_turn view)) (nat_lt 1 (length (legal_moves question [] history)))
      chooses).0 in
      let not_over = (own_turn view own).0 in
      let short : length history ≤ MOST_MOVES = class_histories_are_short question layout.0 history
      (reached_allows question support valid layout listed history reached) in
      let same : public_moves question history ≡ legal_moves question [] history =
      own_moves_on question valid history not_over layout
      (Contains-allowing question valid history layout listed
      (reached_allows question support valid layout listed history reached)) own
      ∙ sym (legal_going question support layout.0 history layout.0 not_over)
      ∙ sym (own_legal question support layout.0 history not_over own) in
      let chosen_there : Contains (choices reply) history =
      Contains-filter (λ other. has_choice reply other && reply_reaches reply other)
      (histories_within MOST_MOVES reply [])
      history
      (goes_within question support layout.0 reply
      (λ other move there found. public_held layout listed other move there found) MOST_MOVES [] history short
      (reached_none question support layout.0) reached)
      (both_true (has_choice reply history) (reply_reaches reply history)
      (ap (λ (l : List ClassMove). is_declarers (class_turn view) && nat_lt 1 (length l)) same ∙ chooses)
      (both_true (reply.live history) (follows reply [] history) live goes)) in
      named (record { history = history; mv = reply_move reply history })
      (Contains-map (λ (other : List ClassMove). record { history = other; mv = reply_move reply other })
      (choices reply) history chosen_there)

  -- ---- bounds of the masses

  abbrev pub price : ClassLayout → List ClassMove → ClassMove → ℤ
  price west history move = price_of (limits question support) prices west history move

  -- a reading by the prices alone, not cut to the mass
  abbrev pub uncut : ClassLayout → Reading
  uncut west = record {
    chooses = defence_chooses question west;
    shares = λ history mass. map (λ move. (move, price west history move))
        (supported_moves question support west history);
    whole = pos (weight_of question west) *ℤ scale;
  }

  abbrev pub bound : ClassLayout → List ClassMove → ℤ
  bound west history = read_mass (uncut west) history

  abbrev pub mass : ClassLayout → List ClassMove → ℤ
  mass west history = defence_mass question read west history

  abbrev pub read_in : ClassLayout → List ClassMove → ℤ
  read_in west history = read_mass (defence_reading question support prices scale west) history

  prices_low : (west : ClassLayout) (history : List ClassMove) (move : ClassMove) → pos 0 ≤ℤ price west history move
  prices_low west history move =
      price_low (limits question support) prices west history move
      (recursion_from_All (λ p. pos 0 ≤ℤ p) prices dual.rows)

  pub bound_stays : (west : ClassLayout) (history : List ClassMove) (move : ClassMove)
      → defence_chooses question west history ≡ false → bound west (history ++ move ∷ []) ≡ bound west history
  bound_stays west history move waits =
      read_mass-push (uncut west) history move
      ∙ ap (λ (b : Bool). if b then count_of (read_shares (uncut west) history) move else bound west history) waits

  pub bound_price : (west : ClassLayout) (history : List ClassMove) (move : ClassMove)
      → defence_chooses question west history ≡ true
      → Contains (supported_moves question support west history) move
      → bound west (history ++ move ∷ []) ≡ price west history move
  bound_price west history move chooses found =
      read_mass-push (uncut west) history move
      ∙ ap (λ (b : Bool). if b then count_of (read_shares (uncut west) history) move else bound west history) chooses
      ∙ count_found (price west history) (supported_moves question support west history) move found

  abbrev pub IsBounded : ClassLayout → List ClassMove → Type 0
  IsBounded west history = (is_reached question support west history ≡ true) × (pos 0 ≤ℤ bound west history)
      × (read_in west history ≤ℤ bound west history)

  next_bounded : (west : ClassLayout) (history : List ClassMove) (move : ClassMove)
      → pos 0 ≤ℤ bound west history → read_in west history ≤ℤ bound west history
      → Contains (supported_moves question support west history) move → (b : Bool)
      → defence_chooses question west history ≡ b
      → (pos 0 ≤ℤ bound west (history ++ move ∷ []))
      × (read_in west (history ++ move ∷ []) ≤ℤ bound west (history ++ move ∷ []))
  next_bounded west history move low le found true chooses =
      let same = bound_price west history move chooses found in
      let reading : Reading = defence_reading question support prices scale west in
      let here = read_mass-push reading history move
      ∙ ap (λ (b : Bool). if b then count_of (read_shares reading history) move else read_in west history) chooses in (
        subst (λ (z : ℤ). pos 0 ≤ℤ z) (sym same) (prices_low west history move),
        subst (λ (z : ℤ). read_in west (history ++ move ∷ []) ≤ℤ z) (sym same)
            (subst (λ (z : ℤ). z ≤ℤ price west history move) (sym here)
            (filled_most (price west history) (supported_moves question support west history) (read_in west history)
            move found)),
      )
  next_bounded west history move low le found false waits =
      let same = bound_stays west history move waits in
      let reading : Reading = defence_reading question support prices scale west in
      let here = read_mass-push reading history move
      ∙ ap (λ (b : Bool). if b then count_of (read_shares reading history) move else read_in west history) waits in (
        subst (λ (z : ℤ). pos 0 ≤ℤ z) (sym same) low,
        subst (λ (z : ℤ). read_in west (history ++ move ∷ []) ≤ℤ z) (sym same)
            (subst (λ (z : ℤ). z ≤ℤ bound west history) (sym here) le),
      )

  pub bounded : (west : ClassLayout) (history : List ClassMove) → is_reached question support west history ≡ true
      → IsBounded west history
  unfolding read_mass read_from
  bounded west history reached =
      let some = dual.over in
      let whole : ℤ = pos (weight_of question west) *ℤ scale in
      reached_fits question support west (IsBounded west)
      (λ before move fits found.
      let next = next_bounded west before move fits.1 fits.2 found (defence_chooses question west before) refl in
      (reached_next question support west before move fits.0 found, next.0, next.1)) (
        reached_none question support west,
        mul_not_negative (pos (weight_of question west)) scale (omega (arith, ints)) (omega (arith, ints, some)),
        itself whole,
      ) history reached
    where
      itself : (z : ℤ) → z ≤ℤ z
      itself z = omega (arith, ints)

  -- ---- what a class layout holds declarer to

  abbrev pub worth_z : ℕ → ClassLayout → List ClassMove → ℤ
  worth_z more west history = worth_within question support point more west history

  abbrev pub part : List ClassMove → ClassLayout × ℕ → ℤ
  part history layout = part_of question support prices scale dual point history layout

  abbrev pub play : ℕ → ClassLayout × ℕ → List ClassMove → ℤ
  play more layout history = play_sum question support part more layout history

  abbrev pub held : ℕ → List ClassMove → ClassLayout × ℕ → ℤ
  held more history layout = bound layout.0 history *ℤ worth_z (suc more) layout.0 history -ℤ play more layout history

  pub worth_low : (more : ℕ) (west : ClassLayout) (history : List ClassMove) → pos 0 ≤ℤ worth_z more west history
  worth_low more west history = within_low question support point point_positive more west history

  pub point_held : (west : ClassLayout) (history : List ClassMove) → point.at (Held west history) ≡ pos 0
  point_held west history = taken_held question support valid taken takes west history

  pub part_none : (history : List ClassMove) (layout : ClassLayout × ℕ)
      → defence_chooses question layout.0 history ≡ false
      → part history layout ≡ pos 0
  part_none history layout waits =
      ap (λ (b : Bool). if b then sum_of (map (λ move. price layout.0 history move *ℤ (point.at (Held layout.0 history)
      -ℤ worth_at question support point layout.0 (history ++ move ∷ [])))
      (supported_moves question support layout.0 history)) else pos 0) waits

  -- at a choice: what the prices of its moves are worth, turned
  pub part_choice : (more : ℕ) (history : List ClassMove) (layout : ClassLayout × ℕ)
      → defence_chooses question layout.0 history ≡ true
      → ((move : ClassMove) → suc MOST_MOVES - length (history ++ move ∷ []) ≡ more)
      → part history layout ≡ pos 0 -ℤ sum_of (map (λ move. price layout.0 history move
      *ℤ worth_z more layout.0 (history ++ move ∷ [])) (supported_moves question support layout.0 history))
  part_choice more history layout chooses left =
      let moves : List ClassMove = supported_moves question support layout.0 history in
      ap (λ (b : Bool). if b then sum_of (map (λ move. price layout.0 history move *ℤ (point.at (Held layout.0 history)
      -ℤ worth_at question support point layout.0 (history ++ move ∷ []))) moves) else pos 0) chooses
      ∙ ap sum_of (map_same (λ move. price layout.0 history move *ℤ (point.at (Held layout.0 history)
      -ℤ worth_at question support point layout.0 (history ++ move ∷ [])))
      (λ move. price layout.0 history move *ℤ (pos 0 -ℤ worth_z more layout.0 (history ++ move ∷ []))) moves
      (λ move found. ap (λ (z : ℤ). price layout.0 history move *ℤ (z
      -ℤ worth_at question support point layout.0 (history ++ move ∷ []))) (point_held layout.0 history)
      ∙ ap (λ (n : ℕ). price layout.0 history move *ℤ (pos 0 -ℤ worth_z n layout.0 (history ++ move ∷ [])))
      (left move)))
      ∙ negated (price layout.0 history) (λ move. worth_z more layout.0 (history ++ move ∷ [])) moves

  part_low : (history : List ClassMove) (layout : ClassLayout × ℕ) → part history layout ≤ℤ pos 0
  part_low history layout = at (defence_chooses question layout.0 history)
    where
      each : (p v w : ℤ) → pos 0 ≤ℤ p → v ≡ pos 0 → pos 0 ≤ℤ w → (p *ℤ (v -ℤ w)) ≤ℤ pos 0
      each p v w low is some =
          let product = mul_not_negative p w low some in
          let parts = mul-sub_left p v w in
          let none : p *ℤ v ≡ p *ℤ pos 0 = ap (λ (z : ℤ). p *ℤ z) is in
          omega (arith, ints, product, parts, none)

      at : (b : Bool)
          → (if b then sum_of (map (λ move. price layout.0 history move *ℤ (point.at (Held layout.0 history)
          -ℤ worth_at question support point layout.0 (history ++ move ∷ [])))
          (supported_moves question support layout.0 history)) else pos 0) ≤ℤ pos 0
      at true = sum_none_more (λ move. price layout.0 history move *ℤ (point.at (Held layout.0 history)
          -ℤ worth_at question support point layout.0 (history ++ move ∷ [])))
          (supported_moves question support layout.0 history)
          (λ move found. each (price layout.0 history move) (point.at (Held layout.0 history))
          (worth_at question support point layout.0 (history ++ move ∷ [])) (prices_low layout.0 history move)
          (point_held layout.0 history)
          (worth_low (suc MOST_MOVES - length (history ++ move ∷ [])) layout.0 (history ++ move ∷ [])))
      at false = omega (arith, ints)

  pub play_low : (more : ℕ) (layout : ClassLayout × ℕ) (history : List ClassMove) → play more layout history ≤ℤ pos 0
  unfolding play_sum
  play_low zero layout history = part_low history layout
  play_low (suc more) layout history =
      both (part history layout) (sum_of (map (λ move. play more layout (history ++ move ∷ []))
      (supported_moves question support layout.0 history))) (part_low history layout)
      (sum_none_more (λ move. play more layout (history ++ move ∷ []))
      (supported_moves question support layout.0 history)
      (λ move found. play_low more layout (history ++ move ∷ [])))
    where
      both : (x y : ℤ) → x ≤ℤ pos 0 → y ≤ℤ pos 0 → (x +ℤ y) ≤ℤ pos 0
      both x y p q = omega (arith, ints, p, q)

  pub held_low : (more : ℕ) (history : List ClassMove) (layout : ClassLayout × ℕ)
      → is_reached question support layout.0 history ≡ true → pos 0 ≤ℤ held more history layout
  held_low more history layout reached =
      finish (bound layout.0 history *ℤ worth_z (suc more) layout.0 history) (play more layout history)
      (mul_not_negative (bound layout.0 history) (worth_z (suc more) layout.0 history)
      (bounded layout.0 history reached).1 (worth_low (suc more) layout.0 history)) (play_low more layout history)
    where
      finish : (x y : ℤ) → pos 0 ≤ℤ x → y ≤ℤ pos 0 → pos 0 ≤ℤ (x -ℤ y)
      finish x y p q = omega (arith, ints, p, q)

  -- ---- class histories that the reply goes to

  pub layout_parts : (history : List ClassMove) (layout : ClassLayout × ℕ)
      → Contains (reached_layouts question support history) layout
      → Contains (layouts_of question) layout × (is_reached question support layout.0 history ≡ true)
  unfolding reached_layouts
  layout_parts history layout found =
      kept_parts (λ (other : ClassLayout × ℕ). is_reached question support other.0 history) (layouts_of question) layout
      found

  -- a class history to which the reply and the moves taken go, and in other class layouts than those in which it is
  -- reached nothing comes to it
  abbrev pub IsTraced : List ClassMove → Type 0
  IsTraced history = (layout : ClassLayout × ℕ) → Contains (allowing_layouts question history) layout
      → (is_reached question support layout.0 history ≡ true) ⊎ (mass layout.0 history ≡ pos 0)

  abbrev pub held_in_all : ℕ → List ClassMove → ℤ
  held_in_all more history = sum_of (map (held more history) (reached_layouts question support history))

  held_all_low : (more : ℕ) (history : List ClassMove) → pos 0 ≤ℤ held_in_all more history
  held_all_low more history =
      sum_positive (held more history) (reached_layouts question support history)
      (λ layout found. held_low more history layout (layout_parts history layout found).1)

  abbrev pub IsUnder : ℕ → List ClassMove → Type 0
  IsUnder more history = worth reply history ≤ℤ held_in_all more history

  -- where nothing comes to it
  pub dead_under : (more : ℕ) (history : List ClassMove) → some_allows question history ≡ true
      → ((layout : ClassLayout × ℕ) → Contains (allowing_layouts question history) layout
      → mass layout.0 history ≡ pos 0)
      → IsUnder more history
  dead_under more history some none =
      subst (λ (z : ℤ). z ≤ℤ held_in_all more history)
      (sym (no_masses_no_worth question read history valid proper some none))
      (held_all_low more history)

  -- ---- where play is over

  over_none : (layout : ClassLayout × ℕ) (history : List ClassMove)
      → class_decided (class_after question history) ≡ true
      → supported_moves question support layout.0 history ≡ []
  unfolding supported_moves
  over_none layout history decided =
      ap (λ (b : Bool). first_and (names question support layout.0 history)
      (if b then [] else class_moves (class_after question history) layout.0)) decided

  over_held : (more : ℕ) (history : List ClassMove) (layout : ClassLayout × ℕ) → Contains (layouts_of question) layout
      → is_reached question support layout.0 history ≡ true → is_chosen history ≡ true
      → class_decided (class_after question history) ≡ true
      → is_defences (class_turn (class_after question history)) ≡ false
      → (pos (class_payoff (class_after question history)) *ℤ mass layout.0 history) ≤ℤ held more history layout
  over_held more history layout listed reached goes decided not_theirs =
      let payoff : ℤ = pos (class_payoff (class_after question history)) in
      let waits = none_theirs question layout.0 history not_theirs in
      let worth_is : worth_z (suc more) layout.0 history ≡ payoff *ℤ pos 1 =
      going question support point layout.0 more history [] waits (over_none layout history decided)
      ∙ ap (λ (z : ℤ). payoff *ℤ z) (taken_masses question support valid taken takes layout listed history reached
      ∙ ap (λ (b : Bool). if b then pos 1 else pos 0) goes) in
      let le = (bounded layout.0 history reached).2 in
      let same = (defence_masses question support valid prices scale dual layout listed history reached).0 in
      finish payoff (mass layout.0 history) (read_in layout.0 history) (bound layout.0 history)
      (worth_z (suc more) layout.0 history) (play more layout history) (omega (arith, ints)) same le worth_is
      (play_low more layout history)
    where
      finish : (payoff m r b w p : ℤ) → pos 0 ≤ℤ payoff → m ≡ r → r ≤ℤ b → w ≡ payoff *ℤ pos 1 → p ≤ℤ pos 0
          → (payoff *ℤ m) ≤ℤ (b *ℤ w -ℤ p)
      finish payoff m r b w p low same le is none =
          let product : b *ℤ w ≡ b *ℤ payoff = ap (λ (z : ℤ). b *ℤ z) (is ∙ single payoff) in
          let more : (r *ℤ payoff) ≤ℤ (b *ℤ payoff) = le-mul_right r b payoff le low in
          let turned : payoff *ℤ m ≡ r *ℤ payoff = *ℤ_comm payoff m ∙ ap (λ (z : ℤ). z *ℤ payoff) same in
          omega (arith, ints, product, more, turned, none)
        where
          single : (z : ℤ) → z *ℤ pos 1 ≡ z
          single z = omega (arith, ints)

  pub over_under : (more : ℕ) (history : List ClassMove) → is_chosen history ≡ true → IsTraced history
      → class_decided (class_after question history) ≡ true
      → is_defences (class_turn (class_after question history)) ≡ false → IsUnder more history
  unfolding reached_layouts
  over_under more history goes traced decided not_theirs =
      let payoff : ℤ = pos (class_payoff (class_after question history)) in
      let paid : ClassLayout × ℕ → ℤ = λ layout. payoff *ℤ mass layout.0 history in
      let allowed : ClassLayout × ℕ → Bool = λ layout. allows question layout.0 history in
      let reached : ClassLayout × ℕ → Bool = λ layout. is_reached question support layout.0 history in
      let worth_is : worth reply history ≡ sum_of (map (λ layout. if allowed layout then paid layout else pos 0)
      (layouts_of question)) =
      defences_at_decided question read history decided
      ∙ sum_times payoff (λ layout. mass layout.0 history) (allowing_layouts question history)
      ∙ sum_kept allowed paid (layouts_of question) in
      subst (λ (z : ℤ). z ≤ℤ held_in_all more history) (sym worth_is)
      (subst (λ (z : ℤ). sum_of (map (λ layout. if allowed layout then paid layout else pos 0) (layouts_of question))
      ≤ℤ z) (sym (sum_kept reached (held more history) (layouts_of question)))
      (sum_le (λ layout. if allowed layout then paid layout else pos 0)
      (λ layout. if reached layout then held more history layout else pos 0) (layouts_of question)
      (λ layout listed. one layout listed (allowed layout) refl (reached layout) refl)))
    where
      none_left : (payoff m : ℤ) → m ≡ pos 0 → (payoff *ℤ m) ≤ℤ pos 0
      none_left payoff m is =
          let product : payoff *ℤ m ≡ payoff *ℤ pos 0 = ap (λ (z : ℤ). payoff *ℤ z) is in
          omega (arith, ints, product)

      one : (layout : ClassLayout × ℕ) → Contains (layouts_of question) layout → (a : Bool)
          → allows question layout.0 history ≡ a → (r : Bool) → is_reached question support layout.0 history ≡ r
          → (if a then pos (class_payoff (class_after question history)) *ℤ mass layout.0 history else pos 0)
          ≤ℤ (if r then held more history layout else pos 0)
      one layout listed true allowed true reached = over_held more history layout listed reached goes decided not_theirs
      one layout listed true allowed false out =
          none_left (pos (class_payoff (class_after question history))) (mass layout.0 history)
          (elim (traced layout (Contains-filter (λ (other : ClassLayout × ℕ). allows question other.0 history)
          (layouts_of question) layout listed allowed)) [
            | inl reached ↦ absurd (false≢true (sym out ∙ reached))
            | inr none ↦ none
          ])
      one layout listed false out true reached = held_low more history layout reached
      one layout listed false out false other = omega (arith, ints)
