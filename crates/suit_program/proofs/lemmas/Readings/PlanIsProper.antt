-- The plan that is read from a point within the rows is proper, and its masses are those that were read (`plan_masses`,
-- `plan_proper`).
use Rattle.std.proofs.Common.{◌≡◌, ℕ, suc, Bool, true, false, cond, List, [], ◌∷◌, ◌++◌, Option, Some, None, Err}
use Rattle.std.proofs.Common.{map, refl, sym, ap, ◌∙◌, subst, inl, inr, arith, append_assoc}
use Rattle.std.specs.Prelude.{Contains, ◌&&◌, ◌||◌, filter, find, length, nat_lt, not, option_map, if◌then◌else◌, ℤ}
use Rattle.std.specs.Prelude.{pos, ◌≤ℤ◌, int_le, int_lt}
use Rattle.std.specs.List.{AllByRecursion, list_any}
use Rattle.std.proofs.lemmas.Bool.{and_parts, cases_Bool, false≢true, false_from_ne_true, lt-ltb}
use Rattle.std.proofs.lemmas.List.{map-append}
use Rattle.std.proofs.lemmas.List.Elements.{Contains-append_right}
use Rattle.suit_lists.proofs.Chains.{Chained, chained_filter, pairs_chained}
use Rattle.suit_lists.proofs.Elements.{Contains-same}
use Rattle.suit_lists.proofs.Elements.{Contains-cons_cases, Contains-first, Contains-nil, each_at, each_gives}
use Rattle.suit_lists.proofs.Filters.{Contains-filter, each_filter, kept_parts}
use Rattle.suit_lists.proofs.Maps.{each_map}
use Rattle.suit_lists.proofs.Once.{IsOnce}
use Rattle.suit_lists.proofs.Tests.{any_append-none, passing_some, some_passing}
use Rattle.suit_cards.specs.Cards.{ClassLayout}
use Rattle.suit_game.specs.declared.question.Question.{Question}
use Rattle.suit_game.specs.Validity.{IsValid}
use Rattle.suit_classes.specs.declared.class_moves.ClassMove.{ClassMove}
use Rattle.suit_classes.specs.ClassMoves.{same_class_move}
use Rattle.suit_classes.specs.MoveOrder.{stands_before}
use Rattle.suit_classes.specs.ClassPlaces.{class_after, class_decided, class_moves, class_start, class_turn}
use Rattle.suit_classes.proofs.ClassMovesRise.{class_moves_rise}
use Rattle.suit_classes.proofs.SameMoves.{same_move-itself}
use Rattle.suit_plans.specs.declared.faults.PlanKind.TheVariants.{Den}
use Rattle.suit_plans.specs.declared.plan.Row.{Row}
use Rattle.suit_plans.specs.Masses.{Shares, Side, count_of, declarer, is_declarers, is_first, mass_from, mass_of}
use Rattle.suit_plans.specs.Masses.{plan_shares_at, share}
use Rattle.suit_plans.specs.Orders.{history_before, plan_row_before, same_class_history}
use Rattle.suit_plans.specs.Properness.{IsProperPlan, first_fault, goes_undecided, last_passes, moves_of}
use Rattle.suit_plans.specs.Properness.{plan_row_fault, plan_verdict, some_allows}
use Rattle.suit_plans.proofs.FirstFaults.{IsFaultless}
use Rattle.suit_plans.proofs.HistoryOrder.{IsStrict-moves, earlier-start, same_class_history-itself}
use Rattle.suit_plans.proofs.HistoryOrder.{same_class_history_is}
use Rattle.suit_plans.proofs.KeyOrder.{history-chain, history-never}
use Rattle.suit_plans.proofs.MassSteps.{mass_kept, mass_of_same, mass_shared}
use Rattle.suit_plans.proofs.PublicMoves.{Contains-allowing, allows_some}
use Rattle.suit_plans.proofs.TurnMoves.{declarers_moves}
use Rattle.suit_plans.specs.declared.plan.TheConstants.{MOST_DEN}
use Rattle.suit_program.specs.Programs.Points.{IsPositive, Passed, Point}
use Rattle.suit_program.specs.Programs.{sum_passed}
use Rattle.suit_program.specs.Readings.{Reading, all_on_first, has_row, plan_at, plan_reading, read_from, read_mass}
use Rattle.suit_program.specs.Readings.{read_shares, row_counts}
use Rattle.suit_program.specs.Supports.{Support, declarer_chooses, is_reached, layouts_of, legal_moves, names}
use Rattle.suit_program.specs.Supports.{reached_histories, supported_moves}
use Rattle.suit_program.specs.Programs.Worths.{mass_at, passed}
use Rattle.suit_program.proofs.lemmas.Supports.AtAChoice.{IsChoice, own_place}
use Rattle.suit_program.proofs.lemmas.Supports.WhatIsReached.{IsSomewhere, listed_somewhere, reached_allows}
use Rattle.suit_program.proofs.lemmas.Supports.WhatIsReached.{reached_fits, reached_listed, reached_next, reached_none}
use Rattle.suit_program.proofs.lemmas.Readings.MassesNoLess.{masses_are_read, not_own, read_mass-push}
use Rattle.suit_program.proofs.lemmas.Supports.ReachedInOrder.{kept_chained}
use Rattle.suit_program.proofs.lemmas.Readings.RowsFit.{faultless_ok, fits_counts, last_of_all, row_fits}
use Rattle.suit_program.proofs.lemmas.Readings.RowsFit.{undecided-push}
use Rattle.suit_program.proofs.lemmas.Readings.MassSharedOut.{ShareOut, kept_counts, moves_mapped, no_row_of}
use Rattle.suit_program.proofs.lemmas.Readings.MassSharedOut.{some_shares, topped_moves, topped_of_moves, wants_row}
use Rattle.suit_program.proofs.lemmas.Programs.SumsInOrder.{le_trans}
use Rattle.suit_program.proofs.lemmas.Supports.TurnCases.{supported_class_move, supported_going, supported_once}
use Rattle.suit_program.proofs.lemmas.Programs.WorthWithinMass.{masses_low}

abbrev IsEarlier : List ClassMove → List ClassMove → Type 0
IsEarlier here there = history_before here there ≡ true

-- ---- rows of a list of class histories

-- a row for each
abbrev pub rows_of : (List ClassMove → Shares) → List (List ClassMove) → List Row
rows_of counts histories = map (λ history. record { history = history; counts = counts history }) histories

shares_case : (b : Bool) (history other : List ClassMove) (counts : List ClassMove → Shares) (later : Option Row)
    (rest : Bool) → same_class_history history other ≡ b
    → option_map (λ (row : Row). row.counts) later ≡ cond rest (Some (counts other)) None
    → option_map (λ (row : Row). row.counts)
    (cond b (Some (record { history = history; counts = counts history })) later)
    ≡ cond (b || rest) (Some (counts other)) None
shares_case true history other counts later rest same is = ap (λ (h : List ClassMove). Some (counts h))
    (same_class_history_is history other same)
shares_case false history other counts later rest same is = is

-- the row at a class history is that of the history, if it is one of them
pub shares_of_rows : (counts : List ClassMove → Shares) (histories : List (List ClassMove)) (other : List ClassMove)
    → plan_shares_at (rows_of counts histories) other
    ≡ cond (list_any (λ history. same_class_history history other) histories) (Some (counts other)) None
unfolding plan_shares_at
shares_of_rows counts [] other = refl
shares_of_rows counts (history ∷ histories) other =
    shares_case (same_class_history history other) history other counts
    (find (λ (row : Row). same_class_history row.history other) (rows_of counts histories))
    (list_any (λ next. same_class_history next other) histories) refl (shares_of_rows counts histories other)

-- whether a class history is one of some
pub any_found : (histories : List (List ClassMove)) (other : List ClassMove) → Contains histories other
    → list_any (λ history. same_class_history history other) histories ≡ true
any_found histories other found =
    passing_some (λ history. same_class_history history other) histories other found (same_class_history-itself other)

pub found_any : (histories : List (List ClassMove)) (other : List ClassMove)
    → list_any (λ history. same_class_history history other) histories ≡ true → Contains histories other
found_any histories other any =
    let some = some_passing (λ history. same_class_history history other) histories any in
    subst (Contains histories) (same_class_history_is some.0 other some.2) some.1

-- ---- the moves of a support at a choice

-- the moves of a support rise
pub supported_rise : (question : Question) (support : Support) (west : ClassLayout) (history : List ClassMove)
    → IsChoice question support west history
    → Chained (λ here there. stands_before here there ≡ true) (supported_moves question support west history)
unfolding Chained
supported_rise question support west history choice =
    let IsBefore : ClassMove → ClassMove → Type 0 = λ here there. stands_before here there ≡ true in
    let all : Chained IsBefore (choice.first ∷ choice.more) =
    subst (Chained IsBefore) choice.moves
    (pairs_chained IsBefore (class_moves (class_after question history) west)
    (class_moves_rise (class_after question history) west)) in
    subst (Chained IsBefore) (sym choice.supported) (
      each_filter (IsBefore choice.first) (names question support west history) choice.more all.0,
      chained_filter IsBefore (names question support west history) choice.more all.1,
    )

-- the first of the legal moves is the first of the support
pub first_same : (question : Question) (support : Support) (west : ClassLayout) (history : List ClassMove)
    (move : ClassMove)
    → IsChoice question support west history
    → is_first (class_moves (class_after question history) west) move
    ≡ is_first (supported_moves question support west history) move
first_same question support west history move choice =
    ap (λ (l : List ClassMove). is_first l move) choice.moves
    ∙ sym (ap (λ (l : List ClassMove). is_first l move) choice.supported)

-- what is reached is not decided before
pub reached_undecided : (question : Question) (support : Support) (west : ClassLayout) (history : List ClassMove)
    → is_reached question support west history ≡ true → goes_undecided (class_start question) history ≡ true
unfolding goes_undecided
reached_undecided question support west history reached =
    reached_fits question support west (λ other. goes_undecided (class_start question) other ≡ true)
    (λ before move fits found. undecided-push (class_start question) before move
    ∙ both (goes_undecided (class_start question) before) (class_decided (class_after question before)) fits
    (supported_going question support west before move found)) refl history reached
  where
    both : (a b : Bool) → a ≡ true → b ≡ false → (a && not b) ≡ true
    both true false p q = refl
    both true true p q = absurd (false≢true (sym q))
    both false b p q = absurd (false≢true p)

-- of one move the first
pub only_first : (moves : List ClassMove) (move : ClassMove) → nat_lt 1 (length moves) ≡ false → Contains moves move
    → is_first moves move ≡ true
only_first [] move few found = absurd (Contains-nil move found)
only_first (first ∷ []) move few found = elim (Contains-cons_cases first [] move found) [
  | inl here ↦ subst (λ (m : ClassMove). same_class_move first m ≡ true) here (same_move-itself first)
  | inr there ↦ absurd (Contains-nil move there)
]
only_first (first ∷ next ∷ moves) move few found =
    absurd (false≢true (sym few ∙ lt-ltb 1 (suc (suc (length moves))) (omega arith)))

-- a move without a choice is the first
forced_first : (question : Question) (support : Support) (west : ClassLayout) (history : List ClassMove)
    (move : ClassMove)
    → is_declarers (class_turn (class_after question history)) ≡ true → declarer_chooses question history ≡ false
    → Contains (supported_moves question support west history) move
    → is_first (class_moves (class_after question history) []) move ≡ true
unfolding declarer_chooses
forced_first question support west history move own waits found =
    let going = supported_going question support west history move found in
    let moves : List ClassMove = class_moves (class_after question history) [] in
    let few : nat_lt 1 (length moves) ≡ false =
    ap (λ (b : Bool). nat_lt 1 (length (if b then [] else moves))) (sym going)
    ∙ sym (ap (λ (b : Bool). b && nat_lt 1 (length (legal_moves question [] history))) own) ∙ waits in
    only_first moves move few (Contains-same move
    (declarers_moves (class_after question history) west [] own)
    (supported_class_move question support west history move found))

-- ---- class histories in order

-- all of a chain stand before what comes after them
pub front_before : {X : Type 0} (R : X → X → Type 0) (front : List X) (x : X) (back : List X)
    → Chained R (front ++ x ∷ back) → AllByRecursion (λ y. R y x) front
unfolding Chained
front_before R [] x back chain = tt
front_before R (first ∷ front) x back chain = (
  each_at (R first) (front ++ x ∷ back) x chain.0 (Contains-append_right front (x ∷ back) x (Contains-first x back)),
  front_before R front x back chain.1,
)

none_same : (histories : List (List ClassMove)) (begun : List ClassMove)
    → AllByRecursion (λ other. IsEarlier begun other) histories
    → list_any (λ other. same_class_history other begun) histories ≡ false
none_same [] begun later = refl
none_same (history ∷ histories) begun later =
    ap (λ (b : Bool). b || list_any (λ other. same_class_history other begun) histories)
    (false_from_ne_true (same_class_history history begun)
    (λ same. false≢true (sym (history-never begun)
    ∙ subst (λ (h : List ClassMove). history_before begun h ≡ true) (same_class_history_is history begun same)
    later.0)))
    ∙ none_same histories begun later.1

pub back_after : {X : Type 0} (R : X → X → Type 0) (front : List X) (x : X) (back : List X)
    → Chained R (front ++ x ∷ back) → AllByRecursion (R x) back
unfolding Chained
back_after R [] x back chain = chain.0
back_after R (first ∷ front) x back chain = back_after R front x back chain.1

-- a beginning of a class history is found only before it
pub any_before : (done : List (List ClassMove)) (history : List ClassMove) (rest : List (List ClassMove))
    (begun : List ClassMove) → Chained IsEarlier (done ++ history ∷ rest) → IsEarlier begun history
    → list_any (λ other. same_class_history other begun) (done ++ history ∷ rest)
    ≡ list_any (λ other. same_class_history other begun) done
any_before done history rest begun chain earlier =
    any_append-none (λ other. same_class_history other begun) done (history ∷ rest)
    (none_same (history ∷ rest) begun (
      earlier,
      each_gives (IsEarlier history) (IsEarlier begun) rest
          (λ other later. history-chain begun history other earlier later)
          (back_after IsEarlier done history rest chain),
    ))

-- ---- the plan

module _ (question : Question) (support : Support) (point : Point) (valid : IsValid question)
    (positive : IsPositive point)
    (within : (history : List ClassMove) → IsSomewhere question support history
    → declarer_chooses question history ≡ true
    → sum_passed question support point history ≤ℤ mass_at question support point history) where
  abbrev reading : Reading
  reading = plan_reading question support point

  abbrev mass : List ClassMove → ℤ
  mass history = read_mass reading history

  abbrev shares : List ClassMove → Shares
  shares history = read_shares reading history

  abbrev kept : List (List ClassMove)
  kept = filter (has_row reading) (reached_histories question support)

  abbrev all_rows : List Row
  all_rows = rows_of (row_counts reading) kept

  abbrev side : Side
  side = declarer point.one all_rows

  pub mass_low : (history : List ClassMove) → pos 0 ≤ℤ mass history
  mass_low history =
      le_trans (pos 0) (mass_at question support point history) (mass history)
      (masses_low question support point positive history)
      (masses_are_read question support point positive history)

  shares_moves : (history : List ClassMove) → moves_of (shares history) ≡ supported_moves question support [] history
  shares_moves history =
      topped_moves (mass history) (passed question support point history)
      ∙ moves_mapped (λ move. point.at (Passed history move)) (supported_moves question support [] history)

  shares_once : (history : List ClassMove) → IsOnce (moves_of (shares history))
  shares_once history = subst (IsOnce {X = ClassMove}) (sym (shares_moves history))
      (supported_once question support [] history)

  -- at a choice that is reached the counts share out the mass
  pub shares_out : (history : List ClassMove) → IsSomewhere question support history
      → declarer_chooses question history ≡ true → ShareOut (mass history) (shares history)
  shares_out history there chooses =
      topped_of_moves (λ move. point.at (Passed history move)) (supported_moves question support [] history)
      (mass history) (own_place question support history chooses).1.supported
      (λ move. positive.at (Passed history move))
      (le_trans (sum_passed question support point history) (mass_at question support point history) (mass history)
      (within history there chooses) (masses_are_read question support point positive history))

  -- ---- its masses

  -- a class history that is reached has a row as it is told to have one
  has_kept : (history : List ClassMove) → IsSomewhere question support history
      → list_any (λ other. same_class_history other history) kept ≡ has_row reading history
  has_kept history there = elim (cases_Bool (has_row reading history)) [
    | inl has ↦ any_found kept history (Contains-filter (has_row reading) (reached_histories question support) history
        (reached_listed question support valid there.layout there.listed history there.reached) has) ∙ sym has
    | inr none ↦ false_from_ne_true (list_any (λ other. same_class_history other history) kept)
        (λ any. false≢true (sym none ∙ (kept_parts (has_row reading) (reached_histories question support) history
        (found_any kept history any)).1)) ∙ sym none
  ]

  -- so its row is that which it is told to have
  row_at : (history : List ClassMove) → IsSomewhere question support history → (has : Bool)
      → has_row reading history ≡ has
      → plan_shares_at all_rows history ≡ cond has (Some (row_counts reading history)) None
  row_at history there has is =
      shares_of_rows (row_counts reading) kept history
      ∙ ap (λ (b : Bool). cond b (Some (row_counts reading history)) None) (has_kept history there ∙ is)

  -- where declarer does not choose there is none
  none_chosen : (history : List ClassMove) → declarer_chooses question history ≡ false → has_row reading history ≡ false
  unfolding has_row
  none_chosen history waits = ap (λ (b : Bool). b && (int_lt (pos 0) (mass history)
      && not (all_on_first (shares history) (mass history)))) waits

  row_chooses : (history : List ClassMove) → has_row reading history ≡ true → declarer_chooses question history ≡ true
  unfolding has_row
  row_chooses history has = (and_parts (declarer_chooses question history) (int_lt (pos 0) (mass history)
      && not (all_on_first (shares history) (mass history))) has).0

  wanted : (history : List ClassMove) → declarer_chooses question history ≡ true
      → wants_row (mass history) (shares history) ≡ has_row reading history
  unfolding has_row
  wanted history chooses = sym (ap (λ (b : Bool). b && (int_lt (pos 0) (mass history)
      && not (all_on_first (shares history) (mass history)))) chooses)

  -- what a choice gives a move
  choice_gives : (history : List ClassMove) (move : ClassMove) → IsSomewhere question support history
      → declarer_chooses question history ≡ true → (has : Bool) → has_row reading history ≡ has
      → share (plan_shares_at all_rows history) (is_first (class_moves (class_after question history) []) move)
      (mass history) move ≡ count_of (shares history) move
  unfolding row_counts
  choice_gives history move there chooses true has =
      ap (λ (o : Option Shares). share o (is_first (class_moves (class_after question history) []) move) (mass history)
      move) (row_at history there true has)
      ∙ kept_counts (shares history) move (shares_once history)
  choice_gives history move there chooses false none =
      let choice = (own_place question support history chooses).1 in
      ap (λ (o : Option Shares). share o (is_first (class_moves (class_after question history) []) move) (mass history)
      move) (row_at history there false none)
      ∙ ap (λ (b : Bool). share None b (mass history) move) (first_same question support [] history move choice
      ∙ sym (ap (λ (l : List ClassMove). is_first l move) (shares_moves history)))
      ∙ sym (no_row_of (mass history) (shares history) move
      (some_shares (shares history) (shares_moves history ∙ choice.supported)) (wanted history chooses ∙ none)
      (shares_out history there chooses))

  next_own : (west : ClassLayout) (history : List ClassMove) (move : ClassMove) → IsSomewhere question support history
      → Contains (supported_moves question support west history) move
      → is_declarers (class_turn (class_after question history)) ≡ true
      → (chooses : Bool) → declarer_chooses question history ≡ chooses
      → share (plan_shares_at all_rows history) (is_first (class_moves (class_after question history) []) move)
      (mass history) move ≡ (if chooses then count_of (shares history) move else mass history)
  next_own west history move there found own true chooses =
      choice_gives history move there chooses (has_row reading history) refl
  next_own west history move there found own false waits =
      ap (λ (o : Option Shares). share o (is_first (class_moves (class_after question history) []) move) (mass history)
      move) (row_at history there false (none_chosen history waits))
      ∙ ap (λ (b : Bool). share None b (mass history) move)
      (forced_first question support west history move own waits found)

  next_mass : (west : ClassLayout) (history : List ClassMove) (move : ClassMove) → IsSomewhere question support history
      → Contains (supported_moves question support west history) move
      → (own : Bool) → is_declarers (class_turn (class_after question history)) ≡ own
      → mass_of question side history ≡ mass history
      → mass_of question side (history ++ move ∷ []) ≡ mass (history ++ move ∷ [])
  next_mass west history move there found true own same =
      mass_shared question side history move own
      ∙ ap (λ (z : ℤ). share (plan_shares_at all_rows history)
      (is_first (class_moves (class_after question history) []) move) z move) same
      ∙ next_own west history move there found own (declarer_chooses question history) refl
      ∙ sym (read_mass-push reading history move)
  next_mass west history move there found false theirs same =
      mass_kept question side history move theirs ∙ same
      ∙ sym (ap (λ (b : Bool). if b then count_of (shares history) move else mass history)
      (not_own question support point history theirs))
      ∙ sym (read_mass-push reading history move)

  abbrev IsRead : ClassLayout → List ClassMove → Type 0
  IsRead west history = (is_reached question support west history ≡ true)
      × (mass_of question side history ≡ mass history)

  -- the plan's masses are those that were read, wherever they are reached
  pub plan_masses : (layout : ClassLayout × ℕ) → Contains (layouts_of question) layout → (history : List ClassMove)
      → is_reached question support layout.0 history ≡ true
      → mass_of question side history ≡ mass history
  unfolding mass_of mass_from read_mass read_from
  plan_masses layout listed history reached =
      (reached_fits question support layout.0 (IsRead layout.0)
      (λ before move fits found. (
        reached_next question support layout.0 before move fits.0 found,
        next_mass layout.0 before move (record { layout = layout; listed = listed; reached = fits.0 }) found
            (is_declarers (class_turn (class_after question before))) refl fits.1,
      ))
      (reached_none question support layout.0, refl) history reached).1

  -- ---- its rows

  -- the rows before a row have what all have at the beginnings of its history
  rows_before : (done : List (List ClassMove)) (history : List ClassMove) (rest : List (List ClassMove))
      → kept ≡ done ++ history ∷ rest → (begun : List ClassMove) (move : ClassMove) (more : List ClassMove)
      → history ≡ begun ++ move ∷ more
      → plan_shares_at all_rows begun ≡ plan_shares_at (rows_of (row_counts reading) done) begun
  rows_before done history rest parts begun move more is =
      shares_of_rows (row_counts reading) kept begun
      ∙ ap (λ (b : Bool). cond b (Some (row_counts reading begun)) None)
      (ap (list_any (λ other. same_class_history other begun)) parts
      ∙ any_before done history rest begun
      (subst (Chained IsEarlier) parts (kept_chained (has_row reading) question support))
      (subst (λ (h : List ClassMove). IsEarlier begun h) (sym is)
      (earlier-start stands_before same_class_move begun move more IsStrict-moves)))
      ∙ sym (shares_of_rows (row_counts reading) done begun)

  mass_before : (done : List (List ClassMove)) (history : List ClassMove) (rest : List (List ClassMove))
      → kept ≡ done ++ history ∷ rest → IsSomewhere question support history
      → mass_of question (declarer point.one (rows_of (row_counts reading) done)) history ≡ mass history
  mass_before done history rest parts there =
      sym (mass_of_same question side (plan_shares_at (rows_of (row_counts reading) done)) history
      (rows_before done history rest parts))
      ∙ plan_masses there.layout there.listed history there.reached

  row_fine : (done : List (List ClassMove)) (history : List ClassMove) (rest : List (List ClassMove))
      → kept ≡ done ++ history ∷ rest
      → plan_row_fault question point.one (rows_of (row_counts reading) done)
      (record { history = history; counts = row_counts reading history }) ≡ None
  unfolding row_counts
  row_fine done history rest parts =
      let found : Contains kept history =
      Contains-same history (sym parts)
      (Contains-append_right done (history ∷ rest) history (Contains-first history rest)) in
      let has = kept_parts (has_row reading) (reached_histories question support) history found in
      let there = listed_somewhere question support valid history has.0 in
      let chooses : declarer_chooses question history ≡ true = row_chooses history has.1 in
      let place = own_place question support history chooses in
      let fits = fits_counts (class_moves (class_after question history) []) (mass history) (shares history)
      (shares_out history there chooses)
      (λ move named. supported_class_move question support [] history move
      (Contains-same move (shares_moves history) named))
      (subst (Chained (λ here there. stands_before here there ≡ true)) (sym (shares_moves history))
      (supported_rise question support [] history place.1)) in
      row_fits question (declarer point.one (rows_of (row_counts reading) done)) history (row_counts reading history)
      (some_allows question history)
      (last_passes (λ (last : Row). plan_row_before last
      (record { history = history; counts = row_counts reading history })) (rows_of (row_counts reading) done))
      (record {
        allowed = allows_some question valid history there.layout
            (Contains-allowing question valid history there.layout there.listed
            (reached_allows question support valid there.layout there.listed history there.reached));
        undecided = reached_undecided question support there.layout.0 history there.reached;
        plays = place.0;
        ordered = last_of_all (λ (last : Row). plan_row_before last
            (record { history = history; counts = row_counts reading history })) (rows_of (row_counts reading) done)
            (each_map (λ (last : Row). plan_row_before last
            (record { history = history; counts = row_counts reading history }) ≡ true)
            (λ other. record { history = other; counts = row_counts reading other }) done
            (front_before IsEarlier done history rest
            (subst (Chained IsEarlier) parts (kept_chained (has_row reading) question support))));
        legal = fits.legal;
        rising = fits.rising;
        positive = fits.positive;
        adds = fits.adds ∙ sym (mass_before done history rest parts there);
      })

  rows_fine : (done todo : List (List ClassMove)) → kept ≡ done ++ todo
      → IsFaultless (plan_row_fault question point.one) (rows_of (row_counts reading) done)
      (rows_of (row_counts reading) todo)
  unfolding IsFaultless
  rows_fine done [] parts = tt
  rows_fine done (history ∷ todo) parts = (
    row_fine done history todo parts,
    subst (λ (l : List Row). IsFaultless (plan_row_fault question point.one) l (rows_of (row_counts reading) todo))
        (map-append (λ other. record { history = other; counts = row_counts reading other }) done (history ∷ []))
        (rows_fine (done ++ history ∷ []) todo (parts ∙ sym (append_assoc done (history ∷ []) todo))),
  )

  -- the plan is proper, where its denominator is within the bounds
  pub plan_proper : int_le (pos 1) point.one ≡ true → int_le point.one (MOST_DEN) ≡ true
      → IsProperPlan question (plan_at question support point)
  unfolding plan_verdict plan_at
  plan_proper some few =
      ap (λ (b : Bool). if b && int_le point.one (MOST_DEN)
      then first_fault (plan_row_fault question point.one) [] all_rows
      else Err (record { kind = Den; row = 0 })) some
      ∙ ap (λ (b : Bool). if b then first_fault (plan_row_fault question point.one) [] all_rows
      else Err (record { kind = Den; row = 0 })) few
      ∙ faultless_ok (plan_row_fault question point.one) [] all_rows (rows_fine [] kept refl)
