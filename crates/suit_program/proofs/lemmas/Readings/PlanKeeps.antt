-- A plan that is read from a part of a point within the rows earns what the point is worth, where the support has the
-- moves of the best reply to it (`plan_keeps`).
use Rattle.std.proofs.Common.{◌≡◌, ℕ, zero, suc, ◌-◌, ◌<◌, Bool, true, false, List, [], ◌∷◌, ◌++◌, length, map, refl}
use Rattle.std.proofs.Common.{sym, ap, ◌∙◌, subst, inl, inr, cond, arith}
use Rattle.std.specs.Prelude.{Contains, filter, if◌then◌else◌, ℤ, pos, ◌+ℤ◌, ◌-ℤ◌, ◌*ℤ◌, ◌≤ℤ◌, int_le, int_lt}
use Rattle.std.specs.Int.{int_min}
use Rattle.std.specs.Ordering.{int_eq}
use Rattle.std.proofs.lemmas.Bool.{cases_Bool, false≢true}
use Rattle.std.proofs.lemmas.Bool.Decides.{Decides-int_eq}
use Rattle.std.proofs.lemmas.Int.{ints}
use Rattle.std.proofs.lemmas.List.{length-append}
use Rattle.std.proofs.Math.IntN.{*ℤ_comm}
use Rattle.suit_lists.proofs.Elements.{Contains-cons_cases, Contains-first, Contains-later, Contains-nil, Contains-same}
use Rattle.suit_lists.proofs.Filters.{Contains-filter, kept_parts}
use Rattle.suit_lists.proofs.Firsts.{HasFirst}
use Rattle.suit_lists.proofs.Maps.{Contains-map_from, map_same}
use Rattle.suit_cards.specs.Cards.{ClassLayout}
use Rattle.suit_num.proofs.IntegerLaws.{int_lt-false, le-mul_right, le_from_mul, mul_assoc, mul_left_comm}
use Rattle.suit_num.proofs.IntegerLaws.{mul_not_negative, mul_not_positive}
use Rattle.suit_game.specs.declared.question.Question.{Question}
use Rattle.suit_game.specs.Validity.{IsValid}
use Rattle.suit_game.specs.declared.limits.TheConstants.{HAND_SIZE, MOST_MOVES}
use Rattle.suit_classes.specs.declared.class_moves.ClassMove.{ClassMove}
use Rattle.suit_classes.specs.ClassMoves.{same_class_move}
use Rattle.suit_classes.specs.ClassGame.{Allows}
use Rattle.suit_classes.specs.ClassPlaces.{class_after, class_moves, class_payoff, class_turn}
use Rattle.suit_classes.proofs.AllowedMoveByMove.{allowed_moves}
use Rattle.suit_classes.proofs.DecidedStaysDecided.{class_histories_are_short}
use Rattle.suit_classes.proofs.SameMoves.{among-Contains, same_move-itself}
use Rattle.suit_plans.specs.declared.plan.Plan.{Plan}
use Rattle.suit_plans.specs.BestReplies.{Reply, best_of, first_of, follows, least, least_reply, reply_move}
use Rattle.suit_plans.specs.BestReplies.{reply_to_plan, worth, worth_at as turn_worth}
use Rattle.suit_plans.specs.Masses.{count_of, is_defences, mass_from, mass_of, plan_mass}
use Rattle.suit_plans.specs.Properness.{IsProperPlan, sum_of}
use Rattle.suit_plans.specs.ReplyLaws.{worths_with}
use Rattle.suit_plans.proofs.NumberSums.{sum_times}
use Rattle.suit_plans.proofs.PlanWorths.{plans_at_declarers, plans_at_defences, plans_paid}
use Rattle.suit_plans.proofs.ReplyChoices.{reply_move_found}
use Rattle.suit_plans.proofs.TurnMoves.{declarers_moves}
use Rattle.suit_plans.proofs.WhoseTurns.{own_turn}
use Rattle.suit_plans.proofs.WorthsAtTurns.{ended_worth, min_picks, worth_next}
use Rattle.suit_plans.specs.declared.plan.TheConstants.{MOST_DEN}
use Rattle.suit_program.specs.Programs.Points.{Column, Held, IsPositive, Passed, Point}
use Rattle.suit_program.specs.Programs.{Shared, excess, sum_passed}
use Rattle.suit_program.specs.Readings.{Reading, plan_at, plan_reading, read_mass, read_shares}
use Rattle.suit_program.specs.Supports.{Support, are_new, declarer_chooses, defence_chooses, is_reached, layouts_of}
use Rattle.suit_program.specs.Supports.{legal_moves, names, supported_moves}
use Rattle.suit_program.specs.Programs.Worths.{mass_at, objective_at, worth_at, worth_within}
use Rattle.suit_program.proofs.lemmas.Programs.WithinTheRows.{IsWithin, held_kept, kept_within, their_only}
use Rattle.suit_program.proofs.lemmas.Supports.AtAChoice.{own_place, their_place}
use Rattle.suit_program.proofs.lemmas.Programs.LinearInThePoint.{AreCombined, masses_linear, nowhere, nowhere_nothing}
use Rattle.suit_program.proofs.lemmas.Readings.PartOfAPoint.{IsPartOf}
use Rattle.suit_program.proofs.lemmas.Supports.WhatIsReached.{IsSomewhere, reached_allows, reached_next, reached_none}
use Rattle.suit_program.proofs.lemmas.Supports.WhatIsReached.{shared_listed}
use Rattle.suit_program.proofs.lemmas.Readings.MassesNoLess.{masses_are_read, read_mass-push}
use Rattle.suit_program.proofs.lemmas.Readings.PlanIsProper.{plan_masses, plan_proper}
use Rattle.suit_program.proofs.lemmas.Programs.SumsInOrder.{le_trans, sum_le}
use Rattle.suit_program.proofs.lemmas.Supports.HasTheReply.{follows_next, reply_supported}
use Rattle.suit_program.proofs.lemmas.Supports.TurnCases.{Ended, Forced, Own, Theirs, TurnAt, supported_class_move}
use Rattle.suit_program.proofs.lemmas.Supports.TurnCases.{turn_at}
use Rattle.suit_program.proofs.lemmas.Programs.WorthWithinMass.{choosing, going, left_next, only_one, some_summed}
use Rattle.suit_program.proofs.lemmas.Programs.WorthWithinMass.{within_paid}

-- ---- the columns of declarer's alone

abbrev own_at : Point → Column → ℤ
own_at point (Passed history move) = point.at (Passed history move)
own_at point (Held west history) = pos 0

-- a point without the columns of the defence
abbrev own : Point → Point
own point = record { at = own_at point; one = point.one }

zero_part : (k : ℤ) → pos 0 ≡ k *ℤ pos 0 +ℤ pos 0
zero_part k = omega (arith, ints)

none_more : (x y : ℤ) → x ≡ y → x ≡ y +ℤ pos 0
none_more x y is = omega (arith, ints, is)

module _ (question : Question) (support : Support) (point full : Point) (k : ℤ) (part : IsPartOf point full k)
    (valid : IsValid question) (inside : IsWithin question support full) where
  own_combined : AreCombined k (own point) nowhere (own full)
  own_combined = record { at = at; one = none_more full.one (k *ℤ point.one) part.one }
    where
      at : (column : Column) → own_at full column ≡ k *ℤ own_at point column +ℤ pos 0
      at (Passed history move) =
          none_more (full.at (Passed history move)) (k *ℤ point.at (Passed history move)) (part.passed history move)
      at (Held west history) = zero_part k

  -- the masses are the same part
  masses_part : (history : List ClassMove)
      → mass_at question support full history ≡ k *ℤ mass_at question support point history
  masses_part history =
      let all = masses_linear question support k (own point) nowhere (own full) own_combined history in
      let none = nowhere_nothing (λ (other : Point). mass_at question support other history)
      (λ j first second whole combined. masses_linear question support j first second whole combined history) in
      less_none (mass_at question support full history) (k *ℤ mass_at question support point history)
      (mass_at question support nowhere history) all none
    where
      less_none : (x y z : ℤ) → x ≡ y +ℤ z → z ≡ pos 0 → x ≡ y
      less_none x y z is none = omega (arith, ints, is, none)

  sums_part : (history : List ClassMove)
      → sum_passed question support full history ≡ k *ℤ sum_passed question support point history
  sums_part history =
      let moves : List ClassMove = supported_moves question support [] history in
      ap sum_of (map_same (λ move. full.at (Passed history move)) (λ move. k *ℤ point.at (Passed history move)) moves
      (λ move found. part.passed history move))
      ∙ sym (sum_times k (λ move. point.at (Passed history move)) moves)

  part_low : (x y : ℤ) → y ≡ k *ℤ x → pos 0 ≤ℤ y → pos 0 ≤ℤ x
  part_low x y is low =
      le_from_mul (pos 0) x k (at_least (x *ℤ k) y (is ∙ *ℤ_comm k x) low) part.over
    where
      at_least : (z y : ℤ) → y ≡ z → pos 0 ≤ℤ y → (pos 0 *ℤ k) ≤ℤ z
      at_least z y is low = omega (arith, ints, is, low)

  pub own_positive : IsPositive (own point)
  own_positive = record {
    at = at;
    one = part_low point.one full.one part.one inside.positive.one;
  }
    where
      at : (column : Column) → pos 0 ≤ℤ own_at point column
      at (Passed history move) = part_low (point.at (Passed history move)) (full.at (Passed history move))
          (part.passed history move) (inside.positive.at (Passed history move))
      at (Held west history) = omega (arith, ints)

  -- so it keeps within the rows of declarer's
  pub own_within : (history : List ClassMove) → IsSomewhere question support history
      → declarer_chooses question history ≡ true
      → sum_passed question support (own point) history ≤ℤ mass_at question support (own point) history
  unfolding excess
  own_within history there chooses =
      let row = inside.rows (Shared history)
      (shared_listed question support valid there.layout there.listed history there.reached chooses) in
      let sum : ℤ = sum_passed question support point history in
      let mass : ℤ = mass_at question support point history in
      le_from_mul sum mass k
      (turned (sum_passed question support full history) (mass_at question support full history) (sum *ℤ k) (mass *ℤ k)
      (sums_part history ∙ *ℤ_comm k sum) (masses_part history ∙ *ℤ_comm k mass) row) part.over
    where
      turned : (x y u v : ℤ) → x ≡ u → y ≡ v → (x -ℤ y) ≤ℤ pos 0 → u ≤ℤ v
      turned x y u v one other le = omega (arith, ints, one, other, le)

  abbrev plan : Plan
  plan = plan_at question support point

  plan_same : plan_at question support (own point) ≡ plan_at question support point
  unfolding plan_at
  plan_same = refl

  -- the plan that is read is proper
  pub part_proper : int_le (pos 1) point.one ≡ true → int_le point.one (MOST_DEN) ≡ true
      → IsProperPlan question plan
  part_proper some few =
      subst (IsProperPlan question) plan_same
      (plan_proper question support (own point) valid own_positive own_within some few)

-- ---- lists

kept_case : (b : Bool) (move : ClassMove) (kept : List ClassMove) (f g : ClassMove → ℤ) (rest : ℤ)
    → (b ≡ true → f move ≤ℤ g move) → pos 0 ≤ℤ g move → sum_of (map f kept) ≤ℤ rest
    → sum_of (map f (cond b (move ∷ kept) kept)) ≤ℤ (g move +ℤ rest)
unfolding sum_of
kept_case true move kept f g rest le low later = both (f move) (g move) (sum_of (map f kept)) rest (le refl) later
  where
    both : (x y u v : ℤ) → x ≤ℤ y → u ≤ℤ v → (x +ℤ u) ≤ℤ (y +ℤ v)
    both x y u v p q = omega (arith, ints, p, q)
kept_case false move kept f g rest le low later = omega (arith, ints, low, later)

-- what some of the moves are worth is at most what all are, where none is worth less than nothing
filter_le : (named : ClassMove → Bool) (moves : List ClassMove) (f g : ClassMove → ℤ)
    → ((move : ClassMove) → Contains (filter named moves) move → f move ≤ℤ g move)
    → ((move : ClassMove) → Contains moves move → pos 0 ≤ℤ g move)
    → sum_of (map f (filter named moves)) ≤ℤ sum_of (map g moves)
unfolding sum_of
filter_le named [] f g le low = omega (arith, ints)
filter_le named (move ∷ moves) f g le low =
    kept_case (named move) move (filter named moves) f g (sum_of (map g moves))
    (λ keeps. le move (Contains-filter named (move ∷ moves) move (Contains-first move moves) keeps))
    (low move (Contains-first move moves))
    (filter_le named moves f g
    (λ other found.
    let parts = kept_parts named moves other found in
    le other (Contains-filter named (move ∷ moves) other (Contains-later move moves other parts.0) parts.1))
    (λ other found. low other (Contains-later move moves other found)))

-- the first that passes does
pub first_passes : (test : ClassMove → Bool) (moves : List ClassMove) (move : ClassMove) → Contains moves move
    → test move ≡ true → test (first_of (filter test moves)) ≡ true
first_passes test [] move found passes = absurd (Contains-nil move found)
first_passes test (first ∷ moves) move found passes =
    at (test first) refl (λ there. first_passes test moves move there passes)
  where
    at : (b : Bool) → test first ≡ b → (Contains moves move → test (first_of (filter test moves)) ≡ true)
        → test (first_of (cond b (first ∷ filter test moves) (filter test moves))) ≡ true
    at true same later = same
    at false other later = elim (Contains-cons_cases first moves move found) [
      | inl here ↦ absurd (false≢true (sym other ∙ ap test here ∙ passes))
      | inr there ↦ later there
    ]

first_filter_le : (named : ClassMove → Bool) (first : ClassMove) (more : List ClassMove) (f g : ClassMove → ℤ)
    → ((move : ClassMove) → Contains (first ∷ filter named more) move → f move ≤ℤ g move)
    → ((move : ClassMove) → Contains (first ∷ more) move → pos 0 ≤ℤ g move)
    → sum_of (map f (first ∷ filter named more)) ≤ℤ sum_of (map g (first ∷ more))
unfolding sum_of
first_filter_le named first more f g le low =
    both (f first) (g first) (sum_of (map f (filter named more))) (sum_of (map g more))
    (le first (Contains-first first (filter named more)))
    (filter_le named more f g (λ move found. le move (Contains-later first (filter named more) move found))
    (λ move found. low move (Contains-later first more move found)))
  where
    both : (x y u v : ℤ) → x ≤ℤ y → u ≤ℤ v → (x +ℤ u) ≤ℤ (y +ℤ v)
    both x y u v p q = omega (arith, ints, p, q)

best_one : (x : ℤ) → best_of int_min (x ∷ []) ≡ x
unfolding best_of
best_one x = refl

-- the mass of the plan that is read, at the start
start_mass : (question : Question) (support : Support) (point : Point)
    → plan_mass question (plan_at question support point) [] ≡ point.one
unfolding plan_mass mass_of mass_from plan_at
start_mass question support point = refl

-- ---- one class layout

-- what is reached with the moves of the reply to a plan, and has mass
record IsLive (question : Question) (support : Support) (read : Plan) (west : ClassLayout)
    (history : List ClassMove) : Type 0 where
  reached : is_reached question support west history ≡ true
  followed : follows (reply_to_plan question read west) [] history ≡ true
  live : int_lt (pos 0) (plan_mass question read history) ≡ true

module _ (question : Question) (support : Support) (point full : Point) (k : ℤ) (part : IsPartOf point full k)
    (valid : IsValid question) (inside : IsWithin question support full)
    (proper : IsProperPlan question (plan_at question support point))
    (all : are_new question support [] (least_reply question (plan_at question support point)) ≡ false)
    (layout : ClassLayout × ℕ) (listed : Contains (layouts_of question) layout) where
  abbrev read : Plan
  read = plan_at question support point

  abbrev west : ClassLayout
  west = layout.0

  abbrev reply : Reply
  reply = reply_to_plan question read west

  abbrev mass : List ClassMove → ℤ
  mass history = plan_mass question read history

  plan_read : (history : List ClassMove) → is_reached question support west history ≡ true
      → mass history ≡ read_mass (plan_reading question support point) history
  unfolding plan_mass plan_at
  plan_read history reached =
      plan_masses question support (own point) valid (own_positive question support point full k part valid inside)
      (own_within question support point full k part valid inside) layout listed history reached

  -- the mass of the point is at most that of the plan
  full_below : (history : List ClassMove) → is_reached question support west history ≡ true
      → mass_at question support full history ≤ℤ (k *ℤ mass history)
  full_below history reached =
      let own_mass : ℤ = mass_at question support point history in
      let le = masses_are_read question support (own point)
      (own_positive question support point full k part valid inside) history in
      subst (λ (z : ℤ). z ≤ℤ (k *ℤ mass history))
      (sym (masses_part question support point full k part valid inside history))
      (subst (λ (z : ℤ). (k *ℤ own_mass) ≤ℤ (k *ℤ z)) (sym (plan_read history reached))
      (times own_mass (read_mass (plan_reading question support point) history) le))
    where
      times : (x y : ℤ) → x ≤ℤ y → (k *ℤ x) ≤ℤ (k *ℤ y)
      times x y le =
          let some = part.over in
          subst (λ (z : ℤ). z ≤ℤ (k *ℤ y)) (*ℤ_comm x k)
          (subst (λ (z : ℤ). (x *ℤ k) ≤ℤ z) (*ℤ_comm y k) (le-mul_right x y k le (omega (arith, ints, some))))

  -- where declarer does not choose it stays
  mass_stays : (history : List ClassMove) (move : ClassMove) → is_reached question support west history ≡ true
      → Contains (supported_moves question support west history) move
      → declarer_chooses question history ≡ false → mass (history ++ move ∷ []) ≡ mass history
  mass_stays history move reached found waits =
      let reading : Reading = plan_reading question support point in
      plan_read (history ++ move ∷ []) (reached_next question support west history move reached found)
      ∙ read_mass-push reading history move
      ∙ ap (λ (b : Bool). if b then count_of (read_shares reading history) move else read_mass reading history) waits
      ∙ sym (plan_read history reached)

  abbrev Live : List ClassMove → Type 0
  Live history = IsLive question support read west history

  allowed : (history : List ClassMove) → Live history → Allows question west history
  allowed history fits = reached_allows question support valid layout listed history fits.reached

  worth_low : (history : List ClassMove) → Allows question west history → pos 0 ≤ℤ worth reply history
  worth_low history allows = (plans_paid question read west history valid proper allows).some

  times_low : (x : ℤ) → pos 0 ≤ℤ x → pos 0 ≤ℤ (k *ℤ x)
  times_low x low = let some = part.over in mul_not_negative k x (omega (arith, ints, some)) low

  -- a class history is worth at the point at most what it is worth against the plan
  abbrev IsBelow : ℕ → List ClassMove → Type 0
  IsBelow more history = worth_within question support full more west history ≤ℤ (k *ℤ worth reply history)

  abbrev NextBelow : ℕ → List ClassMove → Type 0
  NextBelow more history = (move : ClassMove) → Contains (supported_moves question support west history) move
      → Live (history ++ move ∷ []) → IsBelow more (history ++ move ∷ [])

  abbrev next : ℕ → List ClassMove → ClassMove → ℤ
  next more history move = worth_within question support full more west (history ++ move ∷ [])

  ended_below : (more : ℕ) (history : List ClassMove) → Live history → legal_moves question west history ≡ []
      → supported_moves question support west history ≡ [] → defence_chooses question west history ≡ false
      → IsBelow (suc more) history
  ended_below more history fits over none waits =
      let payoff : ℤ = pos (class_payoff (class_after question history)) in
      let earned : worth reply history ≡ payoff *ℤ mass history =
      ended_worth reply (MOST_MOVES - length history) history over in
      subst (λ (z : ℤ). z ≤ℤ (k *ℤ worth reply history))
      (sym (going question support full west more history [] waits none))
      (subst (λ (z : ℤ). (payoff *ℤ mass_at question support full history) ≤ℤ z)
      (mul_left_comm payoff k (mass history) ∙ ap (λ (z : ℤ). k *ℤ z) (sym earned))
      (paid payoff (mass_at question support full history) (k *ℤ mass history) (omega (arith, ints))
      (full_below history fits.reached)))
    where
      paid : (payoff x y : ℤ) → pos 0 ≤ℤ payoff → x ≤ℤ y → (payoff *ℤ x) ≤ℤ (payoff *ℤ y)
      paid payoff x y low le =
          subst (λ (z : ℤ). z ≤ℤ (payoff *ℤ y)) (*ℤ_comm x payoff)
          (subst (λ (z : ℤ). (x *ℤ payoff) ≤ℤ z) (*ℤ_comm y payoff) (le-mul_right x y payoff le low))

  -- there is room for a move
  short : (history : List ClassMove) (move : ClassMove) → Live history
      → Contains (supported_moves question support west history) move → length history < MOST_MOVES
  short history move fits found =
      let few = class_histories_are_short question west (history ++ move ∷ [])
      ((allowed_moves question west history move).1 (
        allowed history fits,
        supported_class_move question support west history move found,
      )) in
      omega (arith, few, length-append history (move ∷ []))

  -- the only move of the reply
  alone_worth : (history : List ClassMove) (move : ClassMove) → length history < MOST_MOVES
      → legal_moves question west history ≡ move ∷ [] → worth reply history ≡ worth reply (history ++ move ∷ [])
  alone_worth history move room alone =
      worth_next reply history room
      ∙ ap (λ (l : List ClassMove). turn_worth reply history (worths_with reply history l)) alone
      ∙ either (reply.replies history) (worth reply (history ++ move ∷ []))
    where
      either : (b : Bool) (x : ℤ) → (if b then best_of int_min (x ∷ []) else sum_of (x ∷ [])) ≡ x
      either true x = best_one x
      either false x = only_one x

  forced_below : (more : ℕ) (history : List ClassMove) (move : ClassMove) → Live history
      → legal_moves question west history ≡ move ∷ []
      → supported_moves question support west history ≡ move ∷ [] → declarer_chooses question history ≡ false
      → defence_chooses question west history ≡ false → NextBelow more history → IsBelow (suc more) history
  forced_below more history move fits alone only not_own not_theirs below =
      let found : Contains (supported_moves question support west history) move =
      Contains-same move (sym only) (Contains-first move []) in
      let room = short history move fits found in
      let some : HasFirst (reply.moves history) = record { first = move; more = []; parts = alone } in
      let live : Live (history ++ move ∷ []) = record {
        reached = reached_next question support west history move fits.reached found;
        followed = follows_next reply history move fits.followed
            (λ own. same_alone (reply_move reply history) move
            (Contains-same (reply_move reply history) alone
            (reply_move_found reply history min_picks room some own)));
        live = ap (int_lt (pos 0)) (mass_stays history move fits.reached found not_own) ∙ fits.live;
      } in
      subst (λ (z : ℤ). z ≤ℤ (k *ℤ worth reply history))
      (sym (going question support full west more history (move ∷ []) not_theirs only
      ∙ only_one (next more history move)))
      (subst (λ (z : ℤ). next more history move ≤ℤ (k *ℤ z)) (sym (alone_worth history move room alone))
      (below move found live))
    where
      same_alone : (other move : ClassMove) → Contains (move ∷ []) other → same_class_move other move ≡ true
      same_alone other move found = elim (Contains-cons_cases move [] other found) [
        | inl here ↦ subst (λ (m : ClassMove). same_class_move m move ≡ true) here (same_move-itself move)
        | inr there ↦ absurd (Contains-nil other there)
      ]

  -- a move of declarer's that gets no mass is worth nothing at the point
  dead_below : (more : ℕ) (history : List ClassMove) (move : ClassMove) → Live history
      → suc more ≡ suc MOST_MOVES - length history
      → Contains (supported_moves question support west history) move
      → int_lt (pos 0) (mass (history ++ move ∷ [])) ≡ false → IsBelow more (history ++ move ∷ [])
  dead_below more history move fits left found dead =
      let there = reached_next question support west history move fits.reached found in
      let paid = within_paid question support full west (λ other. is_reached question support west other ≡ true)
      inside.positive (kept_within question support valid full inside layout listed) more (history ++ move ∷ []) there
      (left_next history move more left) in
      none (next more history move) (mass_at question support full (history ++ move ∷ []))
      (mass (history ++ move ∷ [])) (k *ℤ worth reply (history ++ move ∷ []))
      paid.few (full_below (history ++ move ∷ []) there) (int_lt-false (pos 0) (mass (history ++ move ∷ [])) dead)
      (times_low (worth reply (history ++ move ∷ []))
      (worth_low (history ++ move ∷ []) (reached_allows question support valid layout listed (history ++ move ∷ [])
      there)))
    where
      none : (x y z w : ℤ) → x ≤ℤ (pos HAND_SIZE *ℤ y) → y ≤ℤ (k *ℤ z) → z ≤ℤ pos 0 → pos 0 ≤ℤ w → x ≤ℤ w
      none x y z w few le dead low =
          let some = part.over in
          let nothing = mul_not_positive z k dead (omega (arith, ints, some)) in
          let turned = *ℤ_comm z k in
          omega (arith, ints, few, le, low, nothing, turned)

  one_below : (more : ℕ) (history : List ClassMove) (move : ClassMove) → Live history
      → suc more ≡ suc MOST_MOVES - length history → Contains (supported_moves question support west history) move
      → is_defences (class_turn (class_after question history)) ≡ false → NextBelow more history
      → IsBelow more (history ++ move ∷ [])
  one_below more history move fits left found not_theirs below =
      elim (cases_Bool (int_lt (pos 0) (mass (history ++ move ∷ [])))) [
        | inl live ↦ below move found (record {
          reached = reached_next question support west history move fits.reached found;
          followed = follows_next reply history move fits.followed
              (λ theirs. absurd (false≢true (sym not_theirs ∙ theirs)));
          live = live;
        })
        | inr dead ↦ dead_below more history move fits left found dead
      ]

  own_below : (more : ℕ) (history : List ClassMove) → Live history → suc more ≡ suc MOST_MOVES - length history
      → declarer_chooses question history ≡ true → defence_chooses question west history ≡ false
      → supported_moves question support west history ≡ supported_moves question support [] history
      → HasFirst (supported_moves question support [] history) → NextBelow more history → IsBelow (suc more) history
  own_below more history fits left chooses not_theirs same some below =
      let place = own_place question support history chooses in
      let choice = place.1 in
      let not = (own_turn (class_after question history) place.0).1 in
      let moves : List ClassMove = class_moves (class_after question history) west in
      let later : ClassMove → ℤ = λ move. worth reply (history ++ move ∷ []) in
      let legal : moves ≡ choice.first ∷ choice.more =
      declarers_moves (class_after question history) west [] place.0 ∙ choice.moves in
      let all_moves : k *ℤ worth reply history ≡ sum_of (map (λ move. k *ℤ later move) (choice.first ∷ choice.more)) =
      ap (λ (z : ℤ). k *ℤ z) (plans_at_declarers question read west history (allowed history fits) place.0
      ∙ ap (λ (l : List ClassMove). sum_of (map later l)) legal)
      ∙ sum_times k later (choice.first ∷ choice.more) in
      let each : (move : ClassMove) → Contains (supported_moves question support west history) move
      → next more history move ≤ℤ (k *ℤ later move) =
      λ move found. one_below more history move fits left found not below in
      let low : (move : ClassMove) → Contains (choice.first ∷ choice.more) move → pos 0 ≤ℤ (k *ℤ later move) =
      λ move found. times_low (later move) (worth_low (history ++ move ∷ [])
      ((allowed_moves question west history move).1 (
        allowed history fits,
        Contains-same move (sym legal) found,
      ))) in
      subst (λ (z : ℤ). z ≤ℤ (k *ℤ worth reply history))
      (sym (going question support full west more history (supported_moves question support [] history) not_theirs same
      ∙ some_summed question support full history (next more history) (supported_moves question support [] history)
      some))
      (subst (λ (z : ℤ). sum_of (map (next more history) (supported_moves question support [] history)) ≤ℤ z)
      (sym all_moves)
      (subst (λ (l : List ClassMove). sum_of (map (next more history) l)
      ≤ℤ sum_of (map (λ move. k *ℤ later move) (choice.first ∷ choice.more))) (sym choice.supported)
      (first_filter_le (names question support [] history) choice.first choice.more (next more history)
      (λ move. k *ℤ later move)
      (λ move found. each move (Contains-same move
      (sym (same ∙ choice.supported)) found)) low)))

  -- the move of the reply is worth as much as the turn
  reply_worth : (history : List ClassMove) → Live history → defence_chooses question west history ≡ true
      → worth reply (history ++ reply_move reply history ∷ []) ≡ worth reply history
  unfolding reply_move
  reply_worth history fits chooses =
      let place = their_place question support west history chooses in
      let moves : List ClassMove = class_moves (class_after question history) west in
      let least = plans_at_defences question read west history (allowed history fits) place.0 in
      let from = Contains-map_from (λ move. worth reply (history ++ move ∷ [])) moves (worth reply history)
      least.attained in
      let test : ClassMove → Bool =
      λ move. int_eq (worth reply (history ++ move ∷ [])) (worth reply history) in
      let found : Contains (reply.moves history) from.0 =
      subst (λ (b : Bool). Contains (if b then [] else moves) from.0) (sym place.1.going) from.1 in
      (Decides-int_eq (worth reply (history ++ reply_move reply history ∷ [])) (worth reply history)).0
      (first_passes test (reply.moves history) from.0 found
      ((Decides-int_eq (worth reply (history ++ from.0 ∷ [])) (worth reply history)).1 from.2))

  their_below : (more : ℕ) (history : List ClassMove) → Live history → suc more ≡ suc MOST_MOVES - length history
      → defence_chooses question west history ≡ true → NextBelow more history → IsBelow (suc more) history
  their_below more history fits left chooses below =
      let move : ClassMove = reply_move reply history in
      let found : Contains (supported_moves question support west history) move =
      among-Contains (supported_moves question support west history) move
      (reply_supported question support read valid all layout listed history fits.reached chooses fits.followed
      fits.live) in
      let live : Live (history ++ move ∷ []) = record {
        reached = reached_next question support west history move fits.reached found;
        followed = follows_next reply history move fits.followed (λ theirs. same_move-itself move);
        live = ap (int_lt (pos 0))
            (mass_stays history move fits.reached found (their_only question west history chooses)) ∙ fits.live;
      } in
      let held = held_kept question support valid full inside layout listed history fits.reached chooses move found in
      subst (λ (z : ℤ). z ≤ℤ (k *ℤ worth reply history))
      (sym (choosing question support full west more history chooses))
      (le_trans (full.at (Held west history)) (next more history move) (k *ℤ worth reply history)
      (subst (λ (n : ℕ). full.at (Held west history)
      ≤ℤ worth_within question support full n west (history ++ move ∷ [])) (sym (left_next history move more left))
      held)
      (subst (λ (z : ℤ). next more history move ≤ℤ (k *ℤ z)) (reply_worth history fits chooses)
      (below move found live)))

  turn_below : (more : ℕ) (history : List ClassMove) → Live history → suc more ≡ suc MOST_MOVES - length history
      → NextBelow more history → TurnAt question support west history → IsBelow (suc more) history
  turn_below more history fits left below (Ended over none waits) = ended_below more history fits over none waits
  turn_below more history fits left below (Forced move alone only nobody same) =
      forced_below more history move fits alone only nobody.0 nobody.1 below
  turn_below more history fits left below (Own chooses not_theirs same some) =
      own_below more history fits left chooses not_theirs same some below
  turn_below more history fits left below (Theirs chooses some same) =
      their_below more history fits left chooses below

  all_below : (more : ℕ) (history : List ClassMove) → Live history → more ≡ suc MOST_MOVES - length history
      → IsBelow more history
  unfolding worth_within
  all_below zero history fits left = times_low (worth reply history) (worth_low history (allowed history fits))
  all_below (suc more) history fits left =
      turn_below more history fits left
      (λ move found live. all_below more (history ++ move ∷ []) live (left_next history move more left))
      (turn_at question support west history)

  -- at the start
  pub start_below : int_lt (pos 0) point.one ≡ true
      → worth_at question support full west [] ≤ℤ (k *ℤ worth reply [])
  unfolding follows
  start_below some =
      all_below (suc MOST_MOVES) [] (record {
        reached = reached_none question support west;
        followed = refl;
        live = ap (int_lt (pos 0)) (start_mass question support point) ∙ some;
      }) refl

-- ---- all class layouts

module _ (question : Question) (support : Support) (point full : Point) (k : ℤ) (part : IsPartOf point full k)
    (valid : IsValid question) (inside : IsWithin question support full)
    (proper : IsProperPlan question (plan_at question support point))
    (all : are_new question support [] (least_reply question (plan_at question support point)) ≡ false) where
  -- the plan earns at least what the point is worth
  pub plan_keeps : int_lt (pos 0) point.one ≡ true
      → objective_at question support full ≤ℤ (k *ℤ least question (plan_at question support point))
  unfolding objective_at least
  plan_keeps some =
      let earned : ClassLayout × ℕ → ℤ =
      λ layout. pos layout.1 *ℤ worth (reply_to_plan question (plan_at question support point) layout.0) [] in
      subst (λ (z : ℤ). sum_of (map (λ (layout : ClassLayout × ℕ). pos layout.1
      *ℤ worth_at question support full layout.0 []) (layouts_of question)) ≤ℤ z)
      (sym (sum_times k earned (layouts_of question)))
      (sum_le (λ layout. pos layout.1 *ℤ worth_at question support full layout.0 []) (λ layout. k *ℤ earned layout)
      (layouts_of question)
      (λ layout found. weighed (pos layout.1) (worth_at question support full layout.0 [])
      (worth (reply_to_plan question (plan_at question support point) layout.0) []) (omega (arith, ints))
      (start_below question support point full k part valid inside proper all layout found some)))
    where
      weighed : (weight x y : ℤ) → pos 0 ≤ℤ weight → x ≤ℤ (k *ℤ y) → (weight *ℤ x) ≤ℤ (k *ℤ (weight *ℤ y))
      weighed weight x y low le =
          subst (λ (z : ℤ). z ≤ℤ (k *ℤ (weight *ℤ y))) (*ℤ_comm x weight)
          (subst (λ (z : ℤ). (x *ℤ weight) ≤ℤ z)
          (mul_assoc k y weight ∙ ap (λ (z : ℤ). k *ℤ z) (*ℤ_comm y weight))
          (le-mul_right x (k *ℤ y) weight le low))
