-- The defence that is read from feasible prices is proper, and its masses are those that were read (`defence_masses`,
-- `read_defence_proper`).
use Rattle.std.proofs.Common.{◌≡◌, ℕ, suc, Bool, true, false, cond, List, [], ◌∷◌, ◌++◌, Option, Some, None}
use Rattle.std.proofs.Common.{Err, map, refl, sym, ap, ◌∙◌, subst, inl, inr, arith, append_assoc, append-nil}
use Rattle.std.specs.Prelude.{Contains, ◌&&◌, ◌||◌, bytes_eq, filter, find, length, nat_lt, not, option_map}
use Rattle.std.specs.Prelude.{if◌then◌else◌, ℤ, pos, ◌≤ℤ◌, int_le, int_lt}
use Rattle.std.specs.List.{AllByRecursion, flat_map, list_any}
use Rattle.std.proofs.lemmas.Bool.{and_from, and_parts, cases_Bool, false≢true, false_from_ne_true, lt-ltb, or_left}
use Rattle.std.proofs.lemmas.Bool.{or_right}
use Rattle.std.proofs.lemmas.Int.{ints}
use Rattle.std.proofs.lemmas.List.{map-append}
use Rattle.std.proofs.lemmas.List.Elements.{Contains-append_right, recursion_from_All}
use Rattle.std.proofs.lemmas.Slice.Eq.{bytes_eq-Decides}
use Rattle.suit_lists.proofs.Chains.{Chained}
use Rattle.suit_lists.proofs.Elements.{Contains-cons_cases, Contains-first, Contains-later, Contains-nil, each_append}
use Rattle.suit_lists.proofs.Elements.{Contains-same, each_at, each_gives, each_of}
use Rattle.suit_lists.proofs.Filters.{Contains-filter, kept_parts}
use Rattle.suit_lists.proofs.FlatMaps.{each_flat_map, flat_append}
use Rattle.suit_lists.proofs.Indices.{find_after, find_none, find_start}
use Rattle.suit_lists.proofs.Maps.{each_map}
use Rattle.suit_lists.proofs.Once.{IsOnce}
use Rattle.suit_cards.specs.Cards.{ClassLayout}
use Rattle.suit_num.proofs.IntegerLaws.{mul_not_negative}
use Rattle.suit_game.specs.declared.question.Question.{Question}
use Rattle.suit_game.specs.Validity.{IsValid}
use Rattle.suit_classes.specs.declared.class_moves.ClassMove.{ClassMove}
use Rattle.suit_classes.specs.WhatIsAllowed.{allows}
use Rattle.suit_classes.specs.ClassMoves.{same_class_move}
use Rattle.suit_classes.specs.MoveOrder.{stands_before}
use Rattle.suit_classes.specs.ClassPlaces.{class_after, class_decided, class_moves, class_turn}
use Rattle.suit_classes.proofs.SameMoves.{same_move_is}
use Rattle.suit_plans.specs.declared.faults.PlanKind.{PlanKind}
use Rattle.suit_plans.specs.declared.faults.PlanKind.TheVariants.{Den, Layout}
use Rattle.suit_plans.specs.declared.defence.DefenceRow.{DefenceRow}
use Rattle.suit_plans.specs.Masses.{Shares, Side, count_of, defence_mass, defence_shares_at, defenders, is_defences}
use Rattle.suit_plans.specs.Masses.{is_first, mass_from, mass_of, share, weight_of}
use Rattle.suit_plans.specs.Orders.{counts_before, defence_row_before, history_before, key_before, same_class_history}
use Rattle.suit_plans.specs.Properness.{IsProperDefence, defence_row_fault, defence_verdict, first_fault, last_passes}
use Rattle.suit_plans.specs.Properness.{moves_of, row_fault}
use Rattle.suit_plans.proofs.FirstFaults.{IsFaultless}
use Rattle.suit_plans.proofs.HistoryOrder.{IsStrict-moves, earlier-start, same_class_history_is}
use Rattle.suit_plans.proofs.MassSteps.{mass_kept, mass_of_same, mass_shared}
use Rattle.suit_plans.proofs.PublicMoves.{layout_tells, layout_weighs}
use Rattle.suit_plans.proofs.SharesAddUpToTheMass.{count_case}
use Rattle.suit_plans.specs.declared.plan.TheConstants.{MOST_DEN}
use Rattle.suit_linear.specs.Programs.{IsDualFeasible}
use Rattle.suit_program.specs.Programs.{limits, program_of}
use Rattle.suit_program.specs.Readings.{Reading, all_on_first, defence_of, defence_reading, has_row}
use Rattle.suit_program.specs.Readings.{price_of, read_from, read_mass, read_shares, row_counts}
use Rattle.suit_program.specs.Supports.{Support, defence_chooses, first_and, is_reached, layouts_of, legal_moves}
use Rattle.suit_program.specs.Supports.{names, reached_histories, supported_moves}
use Rattle.suit_program.proofs.lemmas.Supports.AtAChoice.{their_place}
use Rattle.suit_program.proofs.lemmas.Programs.RowsComeOnce.{IsLayoutBefore, counts-never, layouts_chained}
use Rattle.suit_program.proofs.lemmas.Readings.PricesCoverTheMass.{prices_enough}
use Rattle.suit_program.proofs.lemmas.Programs.PricesByName.{price_low}
use Rattle.suit_program.proofs.lemmas.Supports.WhatIsReached.{reached_allows, reached_fits, reached_listed}
use Rattle.suit_program.proofs.lemmas.Supports.WhatIsReached.{reached_next, reached_none}
use Rattle.suit_program.proofs.lemmas.Supports.ReachedInOrder.{kept_chained}
use Rattle.suit_program.proofs.lemmas.Readings.MassesNoLess.{read_mass-push}
use Rattle.suit_program.proofs.lemmas.Readings.PlanIsProper.{any_before, any_found, first_same, found_any, front_before}
use Rattle.suit_program.proofs.lemmas.Readings.PlanIsProper.{back_after, only_first, reached_undecided, supported_rise}
use Rattle.suit_program.proofs.lemmas.Readings.RowsFit.{faultless_ok, fits_counts, last_of_all, row_fits}
use Rattle.suit_program.proofs.lemmas.Readings.MassSharedOut.{AreLow, ShareOut, filled_moves, filled_out, kept_counts}
use Rattle.suit_program.proofs.lemmas.Readings.MassSharedOut.{low_mapped, moves_mapped}
use Rattle.suit_program.proofs.lemmas.Readings.MassSharedOut.{no_row_of, some_shares, sum_mapped, wants_row}
use Rattle.suit_program.proofs.lemmas.Supports.TurnCases.{supported_class_move, supported_going, supported_once}

abbrev IsEarlier : List ClassMove → List ClassMove → Type 0
IsEarlier here there = history_before here there ≡ true

-- ---- lists

-- where an element parts a list
pub record IsParted {X : Type 0} (xs : List X) (x : X) : Type 0 where
  pub front : List X
  pub back : List X
  pub parts : xs ≡ front ++ x ∷ back

pub parted_at : {X : Type 0} (xs : List X) (x : X) → Contains xs x → IsParted xs x
parted_at [] x found = absurd (Contains-nil x found)
parted_at {X} (first ∷ xs) x found = elim (Contains-cons_cases first xs x found) [
  | inl here ↦ record { front = []; back = xs; parts = ap (λ (y : X). y ∷ xs) here }
  | inr there ↦
      let later = parted_at xs x there in
      record { front = first ∷ later.front; back = later.back; parts = ap (λ (l : List X). first ∷ l) later.parts }
]

faultless_append : {R : Type 0} (fault : List R → R → Option PlanKind) (before rows more : List R)
    → IsFaultless fault before rows → IsFaultless fault (before ++ rows) more → IsFaultless fault before (rows ++ more)
unfolding IsFaultless
faultless_append {R} fault before [] more fine later =
    subst (λ (l : List R). IsFaultless fault l more) (append-nil before) later
faultless_append {R} fault before (row ∷ rows) more fine later = (
  fine.0,
  faultless_append fault (before ++ row ∷ []) rows more fine.1
      (subst (λ (l : List R). IsFaultless fault l more) (sym (append_assoc before (row ∷ []) rows)) later),
)

-- ---- rows of a class layout

abbrev pub rows_for : ClassLayout → (List ClassMove → Shares) → List (List ClassMove) → List DefenceRow
rows_for west counts histories =
    map (λ history. record { west = west; history = history; counts = counts history }) histories

abbrev is_at : ClassLayout → List ClassMove → DefenceRow → Bool
is_at west history row = bytes_eq row.west west && same_class_history row.history history

counts_itself : (west : ClassLayout) → bytes_eq west west ≡ true
counts_itself west = (bytes_eq-Decides west west).1 refl

own_case : (b : Bool) (west : ClassLayout) (history other : List ClassMove) (counts : List ClassMove → Shares)
    (later : Option DefenceRow) (rest : Bool) → same_class_history history other ≡ b
    → option_map (λ (row : DefenceRow). row.counts) later ≡ cond rest (Some (counts other)) None
    → option_map (λ (row : DefenceRow). row.counts)
    (cond b (Some (record { west = west; history = history; counts = counts history })) later)
    ≡ cond (b || rest) (Some (counts other)) None
own_case true west history other counts later rest same is =
    ap (λ (h : List ClassMove). Some (counts h)) (same_class_history_is history other same)
own_case false west history other counts later rest same is = is

-- the row at a class history is that of the history, if it is one of them
own_rows : (west : ClassLayout) (counts : List ClassMove → Shares) (histories : List (List ClassMove))
    (other : List ClassMove)
    → option_map (λ (row : DefenceRow). row.counts) (find (is_at west other) (rows_for west counts histories))
    ≡ cond (list_any (λ history. same_class_history history other) histories) (Some (counts other)) None
own_rows west counts [] other = refl
own_rows west counts (history ∷ histories) other =
    let row : DefenceRow = record { west = west; history = history; counts = counts history } in
    ap (λ (b : Bool). option_map (λ (r : DefenceRow). r.counts)
    (cond (b && same_class_history history other) (Some row)
    (find (is_at west other) (rows_for west counts histories)))) (counts_itself west)
    ∙ own_case (same_class_history history other) west history other counts
    (find (is_at west other) (rows_for west counts histories))
    (list_any (λ next. same_class_history next other) histories) refl (own_rows west counts histories other)

-- a move without a choice is the first
forced_first : (question : Question) (support : Support) (west : ClassLayout) (history : List ClassMove)
    (move : ClassMove)
    → is_defences (class_turn (class_after question history)) ≡ true → defence_chooses question west history ≡ false
    → Contains (supported_moves question support west history) move
    → is_first (class_moves (class_after question history) west) move ≡ true
unfolding defence_chooses
forced_first question support west history move theirs waits found =
    let going = supported_going question support west history move found in
    let moves : List ClassMove = class_moves (class_after question history) west in
    let few : nat_lt 1 (length moves) ≡ false =
    ap (λ (b : Bool). nat_lt 1 (length (if b then [] else moves))) (sym going)
    ∙ sym (ap (λ (b : Bool). b && nat_lt 1 (length (legal_moves question west history))) theirs) ∙ waits in
    only_first moves move few (supported_class_move question support west history move found)

-- the defence chooses at no turn of declarer's
pub none_theirs : (question : Question) (west : ClassLayout) (history : List ClassMove)
    → is_defences (class_turn (class_after question history)) ≡ false → defence_chooses question west history ≡ false
unfolding defence_chooses
none_theirs question west history own =
    ap (λ (b : Bool). b && nat_lt 1 (length (legal_moves question west history))) own

-- counts of which none is negative give no move a negative one
count_low : (shares : Shares) (move : ClassMove) → AreLow shares → pos 0 ≤ℤ count_of shares move
unfolding count_of
count_low [] move low = omega (arith, ints)
count_low (count ∷ shares) move low =
    count_case (same_class_move count.0 move) count.1 (count_of shares move) low.0 (count_low shares move low.1)

-- a move that is not named has no count
count_out : (shares : Shares) (move : ClassMove) → (Contains (moves_of shares) move → ⊥) → count_of shares move ≡ pos 0
unfolding count_of
count_out [] move out = refl
count_out (count ∷ shares) move out =
    ap (λ (b : Bool). if b then count.1 else count_of shares move)
    (false_from_ne_true (same_class_move count.0 move) (λ same. out (subst (λ (m : ClassMove). Contains
    (count.0 ∷ moves_of shares) m) (same_move_is count.0 move same) (Contains-first count.0 (moves_of shares)))))
    ∙ count_out shares move (λ found. out (Contains-later count.0 (moves_of shares) move found))

pub few_all : (named : ClassMove → Bool) (moves : List ClassMove) → nat_lt 1 (length moves) ≡ false
    → first_and named moves ≡ moves
few_all named [] few = refl
few_all named (move ∷ []) few = refl
few_all named (move ∷ next ∷ moves) few = absurd (false≢true (sym few
    ∙ lt-ltb 1 (suc (suc (length moves))) (omega arith)))

-- where there is no choice the legal move is in the support
alone_supported : (question : Question) (support : Support) (west : ClassLayout) (history : List ClassMove)
    (move : ClassMove) → is_defences (class_turn (class_after question history)) ≡ true
    → class_decided (class_after question history) ≡ false → defence_chooses question west history ≡ false
    → Contains (class_moves (class_after question history) west) move
    → Contains (supported_moves question support west history) move
unfolding defence_chooses supported_moves
alone_supported question support west history move theirs going waits found =
    let legal : List ClassMove = legal_moves question west history in
    let few : nat_lt 1 (length legal) ≡ false =
    sym (ap (λ (b : Bool). b && nat_lt 1 (length legal)) theirs) ∙ waits in
    Contains-same move
    (sym (few_all (names question support west history) legal few
    ∙ ap (λ (b : Bool). if b then [] else class_moves (class_after question history) west) going)) found

-- ---- the defence

module _ (question : Question) (support : Support) (valid : IsValid question) (prices : List ℤ) (scale : ℤ)
    (dual : IsDualFeasible (program_of question support) prices scale) where
  abbrev reading_in : ClassLayout → Reading
  reading_in west = defence_reading question support prices scale west

  abbrev has_in : ClassLayout → List ClassMove → Bool
  has_in west history = is_reached question support west history && has_row (reading_in west) history

  abbrev kept_in : ClassLayout → List (List ClassMove)
  kept_in west = filter (has_in west) (reached_histories question support)

  abbrev counts_in : ClassLayout → List ClassMove → Shares
  counts_in west history = row_counts (reading_in west) history

  abbrev rows_in : ClassLayout × ℕ → List DefenceRow
  rows_in layout = rows_for layout.0 (counts_in layout.0) (kept_in layout.0)

  abbrev all_rows : List DefenceRow
  all_rows = flat_map rows_in (layouts_of question)

  -- rows of other counts are none of these
  others_fail : (west : ClassLayout) (history : List ClassMove) (layouts : List (ClassLayout × ℕ))
      → AllByRecursion (λ (other : ClassLayout × ℕ). other.0 ≡ west → ⊥) layouts
      → AllByRecursion (λ row. is_at west history row ≡ false) (flat_map rows_in layouts)
  others_fail west history layouts apart =
      each_flat_map (λ row. is_at west history row ≡ false) rows_in layouts
      (λ other found. each_map (λ row. is_at west history row ≡ false)
      (λ next. record { west = other.0; history = next; counts = counts_in other.0 next }) (kept_in other.0)
      (each_of (λ next. (bytes_eq other.0 west && same_class_history next history) ≡ false) (kept_in other.0)
      (λ next. ap (λ (b : Bool). b && same_class_history next history)
      (false_from_ne_true (bytes_eq other.0 west) (λ same. each_at (λ (layout : ClassLayout × ℕ). layout.0 ≡ west → ⊥)
      layouts other apart found ((bytes_eq-Decides other.0 west).0 same))))))

  -- what rows of one class layout among those of others have
  among_others : (west : ClassLayout) (front back : List (ClassLayout × ℕ)) (histories : List (List ClassMove))
      (history : List ClassMove) → AllByRecursion (λ (other : ClassLayout × ℕ). other.0 ≡ west → ⊥) front
      → AllByRecursion (λ (other : ClassLayout × ℕ). other.0 ≡ west → ⊥) back
      → defence_shares_at (flat_map rows_in front ++ (rows_for west (counts_in west) histories
      ++ flat_map rows_in back)) west history
      ≡ cond (list_any (λ other. same_class_history other history) histories) (Some (counts_in west history)) None
  unfolding defence_shares_at
  among_others west front back histories history before after =
      let mine : List DefenceRow = rows_for west (counts_in west) histories in
      ap (option_map (λ (row : DefenceRow). row.counts))
      (find_after (is_at west history) (flat_map rows_in front) (mine ++ flat_map rows_in back)
      (others_fail west history front before)
      ∙ find_start (is_at west history) mine (flat_map rows_in back)
      (find_none (is_at west history) (flat_map rows_in back) (others_fail west history back after)))
      ∙ own_rows west (counts_in west) histories history

  module _ (layout : ClassLayout × ℕ) (front back : List (ClassLayout × ℕ))
      (parts : layouts_of question ≡ front ++ layout ∷ back) where
    abbrev west : ClassLayout
    west = layout.0

    abbrev reading : Reading
    reading = reading_in west

    abbrev mass : List ClassMove → ℤ
    mass history = read_mass reading history

    abbrev shares : List ClassMove → Shares
    shares history = read_shares reading history

    abbrev side : Side
    side = defenders question scale all_rows west

    listed : Contains (layouts_of question) layout
    listed = Contains-same layout (sym parts)
        (Contains-append_right front (layout ∷ back) layout (Contains-first layout back))

    chain : Chained IsLayoutBefore (front ++ layout ∷ back)
    chain = subst (Chained IsLayoutBefore) parts (layouts_chained question)

    apart_before : (one other : ClassLayout) → counts_before one other ≡ true → one ≡ other → ⊥
    apart_before one other before same = false≢true (sym (counts-never other)
        ∙ subst (λ (w : ClassLayout). counts_before w other ≡ true) same before)

    front_apart : AllByRecursion (λ (other : ClassLayout × ℕ). other.0 ≡ west → ⊥) front
    front_apart = each_gives (λ (other : ClassLayout × ℕ). IsLayoutBefore other layout)
        (λ (other : ClassLayout × ℕ). other.0 ≡ west → ⊥) front
        (λ other before. apart_before other.0 west before) (front_before IsLayoutBefore front layout back chain)

    back_apart : AllByRecursion (λ (other : ClassLayout × ℕ). other.0 ≡ west → ⊥) back
    back_apart = each_gives (λ (other : ClassLayout × ℕ). IsLayoutBefore layout other)
        (λ (other : ClassLayout × ℕ). other.0 ≡ west → ⊥) back
        (λ other after same. apart_before west other.0 after (sym same))
        (back_after IsLayoutBefore front layout back chain)

    all_parted : all_rows ≡ flat_map rows_in front ++ (rows_in layout ++ flat_map rows_in back)
    all_parted = ap (flat_map rows_in) parts ∙ flat_append rows_in front (layout ∷ back)

    shares_all : (history : List ClassMove)
        → defence_shares_at all_rows west history
        ≡ cond (list_any (λ other. same_class_history other history) (kept_in west)) (Some (counts_in west history))
        None
    shares_all history =
        ap (λ (l : List DefenceRow). defence_shares_at l west history) all_parted
        ∙ among_others west front back (kept_in west) history front_apart back_apart

    -- ---- the counts

    shares_moves : (history : List ClassMove)
        → moves_of (shares history) ≡ supported_moves question support west history
    shares_moves history =
        filled_moves (mass history) (map (λ move. (move, price_of (limits question support) prices west history move))
        (supported_moves question support west history))
        ∙ moves_mapped (λ move. price_of (limits question support) prices west history move)
        (supported_moves question support west history)

    shares_once : (history : List ClassMove) → IsOnce (moves_of (shares history))
    shares_once history = subst (IsOnce {X = ClassMove}) (sym (shares_moves history))
        (supported_once question support west history)

    prices_low : (history : List ClassMove) (move : ClassMove)
        → pos 0 ≤ℤ price_of (limits question support) prices west history move
    prices_low history move =
        price_low (limits question support) prices west history move
        (recursion_from_All (λ price. pos 0 ≤ℤ price) prices dual.rows)

    shares_out : (history : List ClassMove) → is_reached question support west history ≡ true → pos 0 ≤ℤ mass history
        → defence_chooses question west history ≡ true → ShareOut (mass history) (shares history)
    shares_out history reached low chooses =
        let price : ClassMove → ℤ = λ move. price_of (limits question support) prices west history move in
        let moves : List ClassMove = supported_moves question support west history in
        filled_out (mass history) (map (λ move. (move, price move)) moves) low
        (low_mapped price moves (prices_low history))
        (subst (λ (z : ℤ). mass history ≤ℤ z) (sym (sum_mapped price moves))
        (prices_enough question support valid prices scale dual layout listed history reached chooses))

    -- ---- masses

    has_kept : (history : List ClassMove) → is_reached question support west history ≡ true
        → list_any (λ other. same_class_history other history) (kept_in west) ≡ has_row reading history
    has_kept history reached = elim (cases_Bool (has_row reading history)) [
      | inl has ↦ any_found (kept_in west) history (Contains-filter (has_in west) (reached_histories question support)
          history (reached_listed question support valid layout listed history reached)
          (and_from (is_reached question support west history) (has_row reading history) reached has)) ∙ sym has
      | inr none ↦ false_from_ne_true (list_any (λ other. same_class_history other history) (kept_in west))
          (λ any. false≢true (sym none ∙ (and_parts (is_reached question support west history)
          (has_row reading history) (kept_parts (has_in west) (reached_histories question support) history
          (found_any (kept_in west) history any)).1).1)) ∙ sym none
    ]

    row_at : (history : List ClassMove) → is_reached question support west history ≡ true → (has : Bool)
        → has_row reading history ≡ has
        → defence_shares_at all_rows west history ≡ cond has (Some (counts_in west history)) None
    row_at history reached has is =
        shares_all history
        ∙ ap (λ (b : Bool). cond b (Some (counts_in west history)) None) (has_kept history reached ∙ is)

    none_chosen : (history : List ClassMove) → defence_chooses question west history ≡ false
        → has_row reading history ≡ false
    unfolding has_row
    none_chosen history waits = ap (λ (b : Bool). b && (int_lt (pos 0) (mass history)
        && not (all_on_first (shares history) (mass history)))) waits

    row_chooses : (history : List ClassMove) → has_row reading history ≡ true
        → defence_chooses question west history ≡ true
    unfolding has_row
    row_chooses history has = (and_parts (defence_chooses question west history) (int_lt (pos 0) (mass history)
        && not (all_on_first (shares history) (mass history))) has).0

    wanted : (history : List ClassMove) → defence_chooses question west history ≡ true
        → wants_row (mass history) (shares history) ≡ has_row reading history
    unfolding has_row
    wanted history chooses = sym (ap (λ (b : Bool). b && (int_lt (pos 0) (mass history)
        && not (all_on_first (shares history) (mass history)))) chooses)

    choice_gives : (history : List ClassMove) (move : ClassMove) → is_reached question support west history ≡ true
        → pos 0 ≤ℤ mass history → defence_chooses question west history ≡ true → (has : Bool)
        → has_row reading history ≡ has
        → share (defence_shares_at all_rows west history)
        (is_first (class_moves (class_after question history) west) move) (mass history) move
        ≡ count_of (shares history) move
    unfolding row_counts
    choice_gives history move reached low chooses true has =
        ap (λ (o : Option Shares). share o (is_first (class_moves (class_after question history) west) move)
        (mass history) move) (row_at history reached true has)
        ∙ kept_counts (shares history) move (shares_once history)
    choice_gives history move reached low chooses false none =
        let choice = (their_place question support west history chooses).1 in
        ap (λ (o : Option Shares). share o (is_first (class_moves (class_after question history) west) move)
        (mass history) move) (row_at history reached false none)
        ∙ ap (λ (b : Bool). share None b (mass history) move) (first_same question support west history move choice
        ∙ sym (ap (λ (l : List ClassMove). is_first l move) (shares_moves history)))
        ∙ sym (no_row_of (mass history) (shares history) move
        (some_shares (shares history) (shares_moves history ∙ choice.supported)) (wanted history chooses ∙ none)
        (shares_out history reached low chooses))

    next_theirs : (history : List ClassMove) (move : ClassMove) → is_reached question support west history ≡ true
        → pos 0 ≤ℤ mass history → Contains (supported_moves question support west history) move
        → is_defences (class_turn (class_after question history)) ≡ true
        → (chooses : Bool) → defence_chooses question west history ≡ chooses
        → share (defence_shares_at all_rows west history)
        (is_first (class_moves (class_after question history) west) move) (mass history) move
        ≡ (if chooses then count_of (shares history) move else mass history)
    next_theirs history move reached low found theirs true chooses =
        choice_gives history move reached low chooses (has_row reading history) refl
    next_theirs history move reached low found theirs false waits =
        ap (λ (o : Option Shares). share o (is_first (class_moves (class_after question history) west) move)
        (mass history) move) (row_at history reached false (none_chosen history waits))
        ∙ ap (λ (b : Bool). share None b (mass history) move)
        (forced_first question support west history move theirs waits found)

    next_mass : (history : List ClassMove) (move : ClassMove) → is_reached question support west history ≡ true
        → pos 0 ≤ℤ mass history → Contains (supported_moves question support west history) move
        → (theirs : Bool) → is_defences (class_turn (class_after question history)) ≡ theirs
        → mass_of question side history ≡ mass history
        → mass_of question side (history ++ move ∷ []) ≡ mass (history ++ move ∷ [])
    next_mass history move reached low found true theirs same =
        mass_shared question side history move theirs
        ∙ ap (λ (z : ℤ). share (defence_shares_at all_rows west history)
        (is_first (class_moves (class_after question history) west) move) z move) same
        ∙ next_theirs history move reached low found theirs (defence_chooses question west history) refl
        ∙ sym (read_mass-push reading history move)
    next_mass history move reached low found false own same =
        mass_kept question side history move own ∙ same
        ∙ sym (ap (λ (b : Bool). if b then count_of (shares history) move else mass history)
        (none_theirs question west history own))
        ∙ sym (read_mass-push reading history move)

    next_low : (history : List ClassMove) (move : ClassMove) → is_reached question support west history ≡ true
        → pos 0 ≤ℤ mass history → pos 0 ≤ℤ mass (history ++ move ∷ [])
    next_low history move reached low =
        subst (λ (z : ℤ). pos 0 ≤ℤ z) (sym (read_mass-push reading history move))
        (at (defence_chooses question west history) refl)
      where
        at : (b : Bool) → defence_chooses question west history ≡ b
            → pos 0 ≤ℤ (if b then count_of (shares history) move else mass history)
        at true chooses = count_low (shares history) move (shares_out history reached low chooses).low
        at false waits = low

    -- what is not in the support gets nothing
    left_out : (history : List ClassMove) (move : ClassMove) → is_reached question support west history ≡ true
        → pos 0 ≤ℤ mass history → mass_of question side history ≡ mass history
        → is_defences (class_turn (class_after question history)) ≡ true
        → class_decided (class_after question history) ≡ false
        → Contains (class_moves (class_after question history) west) move
        → (Contains (supported_moves question support west history) move → ⊥)
        → mass_of question side (history ++ move ∷ []) ≡ pos 0
    left_out history move reached low same theirs going found out =
        elim (cases_Bool (defence_chooses question west history)) [
          | inl chooses ↦
              mass_shared question side history move theirs
              ∙ ap (λ (z : ℤ). share (defence_shares_at all_rows west history)
              (is_first (class_moves (class_after question history) west) move) z move) same
              ∙ choice_gives history move reached low chooses (has_row reading history) refl
              ∙ count_out (shares history) move (λ named. out (Contains-same move
              (shares_moves history) named))
          | inr waits ↦ absurd (out (alone_supported question support west history move theirs going waits found))
        ]

    -- what holds of each class history that is reached: it has the mass that is read, which is not negative
    abbrev IsRead : List ClassMove → Type 0
    IsRead history = (is_reached question support west history ≡ true) × (pos 0 ≤ℤ mass history)
        × (mass_of question side history ≡ mass history)

    pub reads : (history : List ClassMove) → is_reached question support west history ≡ true → IsRead history
    unfolding mass_of mass_from read_mass read_from
    reads history reached =
        let some = dual.over in
        reached_fits question support west IsRead
        (λ before move fits found. (
          reached_next question support west before move fits.0 found,
          next_low before move fits.0 fits.1,
          next_mass before move fits.0 fits.1 found (is_defences (class_turn (class_after question before))) refl
              fits.2,
        )) (
          reached_none question support west,
          mul_not_negative (pos (weight_of question west)) scale (omega (arith, ints)) (omega (arith, ints, some)),
          refl,
        ) history reached

    -- ---- rows

    abbrev done_rows : List (List ClassMove) → List DefenceRow
    done_rows done = flat_map rows_in front ++ rows_for west (counts_in west) done

    shares_done : (done : List (List ClassMove)) (history : List ClassMove)
        → defence_shares_at (done_rows done) west history
        ≡ cond (list_any (λ other. same_class_history other history) done) (Some (counts_in west history)) None
    shares_done done history =
        ap (λ (l : List DefenceRow). defence_shares_at (flat_map rows_in front ++ l) west history)
        (sym (append-nil (rows_for west (counts_in west) done)))
        ∙ among_others west front [] done history front_apart tt

    rows_before : (done : List (List ClassMove)) (history : List ClassMove) (rest : List (List ClassMove))
        → kept_in west ≡ done ++ history ∷ rest → (begun : List ClassMove) (move : ClassMove) (more : List ClassMove)
        → history ≡ begun ++ move ∷ more
        → defence_shares_at all_rows west begun ≡ defence_shares_at (done_rows done) west begun
    rows_before done history rest parts begun move more is =
        shares_all begun
        ∙ ap (λ (b : Bool). cond b (Some (counts_in west begun)) None)
        (ap (list_any (λ other. same_class_history other begun)) parts
        ∙ any_before done history rest begun
        (subst (Chained IsEarlier) parts (kept_chained (has_in west) question support))
        (subst (λ (h : List ClassMove). IsEarlier begun h) (sym is)
        (earlier-start stands_before same_class_move begun move more IsStrict-moves)))
        ∙ sym (shares_done done begun)

    mass_before : (done : List (List ClassMove)) (history : List ClassMove) (rest : List (List ClassMove))
        → kept_in west ≡ done ++ history ∷ rest → is_reached question support west history ≡ true
        → mass_of question (defenders question scale (done_rows done) west) history ≡ mass history
    mass_before done history rest parts reached =
        sym (mass_of_same question side (defence_shares_at (done_rows done) west) history
        (rows_before done history rest parts))
        ∙ (reads history reached).2

    ordered : (done : List (List ClassMove)) (history : List ClassMove) (rest : List (List ClassMove))
        → kept_in west ≡ done ++ history ∷ rest
        → AllByRecursion (λ (last : DefenceRow). defence_row_before last
        (record { west = west; history = history; counts = counts_in west history }) ≡ true) (done_rows done)
    ordered done history rest parts =
        let row : DefenceRow = record { west = west; history = history; counts = counts_in west history } in
        each_append (λ (last : DefenceRow). defence_row_before last row ≡ true) (flat_map rows_in front)
        (rows_for west (counts_in west) done)
        (each_flat_map (λ (last : DefenceRow). defence_row_before last row ≡ true) rows_in front
        (λ other found. each_map (λ (last : DefenceRow). defence_row_before last row ≡ true)
        (λ next. record { west = other.0; history = next; counts = counts_in other.0 next }) (kept_in other.0)
        (each_of (λ next. key_before other.0 next west history ≡ true) (kept_in other.0)
        (λ next. or_left (counts_before other.0 west) (bytes_eq other.0 west && history_before next history)
        (each_at (λ (y : ClassLayout × ℕ). IsLayoutBefore y layout) front other
        (front_before IsLayoutBefore front layout back chain) found)))))
        (each_map (λ (last : DefenceRow). defence_row_before last row ≡ true)
        (λ next. record { west = west; history = next; counts = counts_in west next }) done
        (each_gives (λ next. IsEarlier next history) (λ next. key_before west next west history ≡ true) done
        (λ next before. or_right (counts_before west west) (bytes_eq west west && history_before next history)
        (and_from (bytes_eq west west) (history_before next history) (counts_itself west) before))
        (front_before IsEarlier done history rest
        (subst (Chained IsEarlier) parts (kept_chained (has_in west) question support)))))

    row_fine : (done : List (List ClassMove)) (history : List ClassMove) (rest : List (List ClassMove))
        → kept_in west ≡ done ++ history ∷ rest
        → defence_row_fault question scale (done_rows done)
        (record { west = west; history = history; counts = counts_in west history }) ≡ None
    unfolding row_counts
    row_fine done history rest parts =
        let row : DefenceRow = record { west = west; history = history; counts = counts_in west history } in
        let found : Contains (kept_in west) history =
        Contains-same history (sym parts)
        (Contains-append_right done (history ∷ rest) history (Contains-first history rest)) in
        let kept = and_parts (is_reached question support west history) (has_row reading history)
        (kept_parts (has_in west) (reached_histories question support) history found).1 in
        let chooses = row_chooses history kept.1 in
        let place = their_place question support west history chooses in
        let fits = fits_counts (class_moves (class_after question history) west) (mass history) (shares history)
        (shares_out history kept.0 (reads history kept.0).1 chooses)
        (λ move named. supported_class_move question support west history move
        (Contains-same move (shares_moves history) named))
        (subst (Chained (λ here there. stands_before here there ≡ true)) (sym (shares_moves history))
        (supported_rise question support west history place.1)) in
        ap (λ (b : Bool). if not b then Some Layout else row_fault question
        (defenders question scale (done_rows done) west) history (counts_in west history)
        (allows question west history) (last_passes (λ (last : DefenceRow). defence_row_before last row)
        (done_rows done))) (lt-ltb 0 (weight_of question west) (layout_weighs question valid layout listed))
        ∙ row_fits question (defenders question scale (done_rows done) west) history (counts_in west history)
        (allows question west history) (last_passes (λ (last : DefenceRow). defence_row_before last row)
        (done_rows done))
        (record {
          allowed = (layout_tells question valid layout history listed).1
              (reached_allows question support valid layout listed history kept.0);
          undecided = reached_undecided question support west history kept.0;
          plays = place.0;
          ordered = last_of_all (λ (last : DefenceRow). defence_row_before last row) (done_rows done)
              (ordered done history rest parts);
          legal = fits.legal;
          rising = fits.rising;
          positive = fits.positive;
          adds = fits.adds ∙ sym (mass_before done history rest parts kept.0);
        })

    rows_fine : (done todo : List (List ClassMove)) → kept_in west ≡ done ++ todo
        → IsFaultless (defence_row_fault question scale) (done_rows done) (rows_for west (counts_in west) todo)
    unfolding IsFaultless
    rows_fine done [] parts = tt
    rows_fine done (history ∷ todo) parts =
        let row : List ClassMove → DefenceRow =
        λ other. record { west = west; history = other; counts = counts_in west other } in (
          row_fine done history todo parts,
          subst (λ (l : List DefenceRow). IsFaultless (defence_row_fault question scale) l
              (rows_for west (counts_in west) todo))
              (ap (λ (l : List DefenceRow). flat_map rows_in front ++ l) (map-append row done (history ∷ []))
              ∙ sym (append_assoc (flat_map rows_in front) (map row done) (row history ∷ [])))
              (rows_fine (done ++ history ∷ []) todo (parts ∙ sym (append_assoc done (history ∷ []) todo))),
        )

  -- ---- all class layouts

  layouts_fine : (front todo : List (ClassLayout × ℕ)) → layouts_of question ≡ front ++ todo
      → IsFaultless (defence_row_fault question scale) (flat_map rows_in front) (flat_map rows_in todo)
  unfolding IsFaultless
  layouts_fine front [] parts = tt
  layouts_fine front (layout ∷ todo) parts =
      faultless_append (defence_row_fault question scale) (flat_map rows_in front) (rows_in layout)
      (flat_map rows_in todo)
      (subst (λ (l : List DefenceRow). IsFaultless (defence_row_fault question scale) l (rows_in layout))
      (append-nil (flat_map rows_in front)) (rows_fine layout front todo parts [] (kept_in layout.0) refl))
      (subst (λ (l : List DefenceRow). IsFaultless (defence_row_fault question scale) l (flat_map rows_in todo))
      (flat_append rows_in front (layout ∷ [])
      ∙ ap (λ (l : List DefenceRow). flat_map rows_in front ++ l) (append-nil (rows_in layout)))
      (layouts_fine (front ++ layout ∷ []) todo (parts ∙ sym (append_assoc front (layout ∷ []) todo))))

  -- the defence is proper, where its denominator is within the bounds
  pub read_defence_proper : int_le (pos 1) scale ≡ true → int_le scale (MOST_DEN) ≡ true
      → IsProperDefence question (defence_of question support prices scale)
  unfolding defence_verdict defence_of
  read_defence_proper some few =
      ap (λ (b : Bool). if b && int_le scale (MOST_DEN)
      then first_fault (defence_row_fault question scale) [] all_rows
      else Err (record { kind = Den; row = 0 })) some
      ∙ ap (λ (b : Bool). if b then first_fault (defence_row_fault question scale) [] all_rows
      else Err (record { kind = Den; row = 0 })) few
      ∙ faultless_ok (defence_row_fault question scale) [] all_rows (layouts_fine [] (layouts_of question) refl)

  -- its masses are those that were read, and none is negative
  pub defence_masses : (layout : ClassLayout × ℕ) → Contains (layouts_of question) layout → (history : List ClassMove)
      → is_reached question support layout.0 history ≡ true
      → (defence_mass question (defence_of question support prices scale) layout.0 history
      ≡ read_mass (reading_in layout.0) history) × (pos 0 ≤ℤ read_mass (reading_in layout.0) history)
  unfolding defence_mass defence_of
  defence_masses layout found history reached =
      let parted = parted_at (layouts_of question) layout found in
      let fits = reads layout parted.front parted.back parted.parts history reached in
      (fits.2, fits.1)

  -- what is not in the support gets nothing of them
  pub unsupported_none : (layout : ClassLayout × ℕ) → Contains (layouts_of question) layout → (history : List ClassMove)
      (move : ClassMove) → is_reached question support layout.0 history ≡ true
      → is_defences (class_turn (class_after question history)) ≡ true
      → class_decided (class_after question history) ≡ false
      → Contains (class_moves (class_after question history) layout.0) move
      → (Contains (supported_moves question support layout.0 history) move → ⊥)
      → defence_mass question (defence_of question support prices scale) layout.0 (history ++ move ∷ []) ≡ pos 0
  unfolding defence_mass defence_of
  unsupported_none layout found history move reached theirs going legal out =
      let parted = parted_at (layouts_of question) layout found in
      let fits = reads layout parted.front parted.back parted.parts history reached in
      left_out layout parted.front parted.back parted.parts history move reached fits.1 fits.2 theirs going legal out
