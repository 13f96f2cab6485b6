-- A row of counts that share out a mass among moves of the support is not at fault (`fits_counts`), and where no row is
-- at fault a plan or a defence is proper (`faultless_ok`, `row_fits`).
use Rattle.std.proofs.Common.{◌≡◌, ◌+◌, Bool, true, false, List, [], ◌∷◌, ◌++◌, Option, Some, None, Ok, length}
use Rattle.std.proofs.Common.{map, refl, ap, ◌∙◌, arith}
use Rattle.std.specs.Prelude.{Contains, ◌&&◌, cond, filter, fold, not, if◌then◌else◌, ℤ, pos, ◌+ℤ◌, ◌≤ℤ◌, int_le}
use Rattle.std.specs.List.{AllByRecursion, list_all}
use Rattle.std.specs.Ordering.{int_eq}
use Rattle.std.proofs.lemmas.Bool.Decides.{Decides-int_eq}
use Rattle.std.proofs.lemmas.Int.{ints}
use Rattle.suit_lists.proofs.Chains.{Chained, chained_filter, chained_map}
use Rattle.suit_lists.proofs.Elements.{each_gives, each_in}
use Rattle.suit_lists.proofs.Filters.{each_filter}
use Rattle.suit_lists.proofs.Maps.{each_map}
use Rattle.suit_lists.proofs.Tests.{list_all_true}
use Rattle.suit_game.specs.declared.question.Question.{Question}
use Rattle.suit_classes.specs.declared.class_moves.ClassMove.{ClassMove}
use Rattle.suit_classes.specs.declared.class_view.ClassView.{ClassView}
use Rattle.suit_classes.specs.WhatIsAllowed.{is_among}
use Rattle.suit_classes.specs.MoveOrder.{stands_before}
use Rattle.suit_classes.specs.ClassPlaces.{class_after, class_decided, class_moves, class_start, class_step, class_turn}
use Rattle.suit_classes.proofs.SameMoves.{among_contained}
use Rattle.suit_plans.specs.declared.faults.PlanKind.{PlanKind}
use Rattle.suit_plans.specs.declared.faults.PlanKind.TheVariants.{History, Order, Illegal, Negative, Sum}
use Rattle.suit_plans.specs.Masses.{Shares, Side, mass_of}
use Rattle.suit_plans.specs.Properness.{are_rising, at_row, first_fault, goes_undecided, last_passes, moves_of}
use Rattle.suit_plans.specs.Properness.{row_fault, sum_of}
use Rattle.suit_plans.proofs.FirstFaults.{FitsTurn, IsFaultless}
use Rattle.suit_program.specs.Readings.{sum_counts}
use Rattle.suit_program.proofs.lemmas.Readings.MassSharedOut.{ShareOut}

-- ---- tests that pass

-- moves of which each stands before those after it rise
pub chained_rising : (moves : List ClassMove) → Chained (λ here there. stands_before here there ≡ true) moves
    → are_rising moves ≡ true
unfolding are_rising Chained
chained_rising [] chain = refl
chained_rising (move ∷ []) chain = refl
chained_rising (move ∷ next ∷ moves) chain =
    ap (λ (b : Bool). b && are_rising (next ∷ moves)) chain.0.0 ∙ chained_rising (next ∷ moves) chain.1

low_told : (x : ℤ) → pos 0 ≤ℤ x → int_le (pos 0) x ≡ true
low_told x low = grind (arith, ints, low)

abbrev is_some : ClassMove × ℤ → Bool
is_some count = not (int_eq count.1 (pos 0))

nothing_kept : (b : Bool) (count : ClassMove × ℤ) (kept shares : Shares) → int_eq count.1 (pos 0) ≡ b
    → sum_counts kept ≡ sum_counts shares
    → sum_counts (cond (not b) (count ∷ kept) kept) ≡ count.1 +ℤ sum_counts shares
unfolding sum_of
nothing_kept false count kept shares is later = ap (λ (z : ℤ). count.1 +ℤ z) later
nothing_kept true count kept shares is later =
    let none : count.1 ≡ pos 0 = (Decides-int_eq count.1 (pos 0)).0 is in
    omega (arith, ints, none, later)

-- counts of 0 add nothing
pub sum_kept_counts : (shares : Shares) → sum_counts (filter is_some shares) ≡ sum_counts shares
unfolding sum_of
sum_kept_counts [] = refl
sum_kept_counts (count ∷ shares) =
    nothing_kept (int_eq count.1 (pos 0)) count (filter is_some shares) shares refl (sum_kept_counts shares)

-- ---- the counts of a row

-- what the tests of a row ask of its counts
pub record FitsCounts (moves : List ClassMove) (mass : ℤ) (counts : Shares) : Type 0 where
  pub legal : list_all (is_among moves) (moves_of counts) ≡ true
  pub rising : are_rising (moves_of counts) ≡ true
  pub positive : list_all (λ (count : ClassMove × ℤ). int_le (pos 0) count.1) counts ≡ true
  pub adds : sum_of (map (λ (count : ClassMove × ℤ). count.1) counts) ≡ mass

chained_of_moves : (shares : Shares) → Chained (λ here there. stands_before here there ≡ true) (moves_of shares)
    → Chained (λ (here there : ClassMove × ℤ). stands_before here.0 there.0 ≡ true) shares
unfolding Chained
chained_of_moves [] chain = tt
chained_of_moves (count ∷ shares) chain = (each_of_moves shares chain.0, chained_of_moves shares chain.1)
  where
    each_of_moves : (shares : Shares) → AllByRecursion (λ there. stands_before count.0 there ≡ true) (moves_of shares)
        → AllByRecursion (λ (there : ClassMove × ℤ). stands_before count.0 there.0 ≡ true) shares
    each_of_moves [] each = tt
    each_of_moves (next ∷ shares) each = (each.0, each_of_moves shares each.1)

each_count : (legal : List ClassMove) (shares : Shares)
    → AllByRecursion (λ move. is_among legal move ≡ true) (moves_of shares)
    → AllByRecursion (λ (count : ClassMove × ℤ). is_among legal count.0 ≡ true) shares
each_count legal [] each = tt
each_count legal (count ∷ shares) each = (each.0, each_count legal shares each.1)

-- counts that share out a mass among rising legal moves make a row, without those of 0
pub fits_counts : (legal : List ClassMove) (mass : ℤ) (shares : Shares) → ShareOut mass shares
    → ((move : ClassMove) → Contains (moves_of shares) move → Contains legal move)
    → Chained (λ here there. stands_before here there ≡ true) (moves_of shares)
    → FitsCounts legal mass (filter is_some shares)
fits_counts legal mass shares out within chain =
    let first : ClassMove × ℤ → ClassMove = λ count. count.0 in
    record {
      legal = list_all_true (is_among legal) (moves_of (filter is_some shares))
          (each_map (λ move. is_among legal move ≡ true) first (filter is_some shares)
          (each_filter (λ (count : ClassMove × ℤ). is_among legal count.0 ≡ true) is_some shares
          (each_count legal shares (each_in (λ move. is_among legal move ≡ true) (moves_of shares)
          (λ move found. among_contained legal move (within move found))))));
      rising = chained_rising (moves_of (filter is_some shares))
          (chained_map (λ (here there : ClassMove × ℤ). stands_before here.0 there.0 ≡ true)
          (λ here there. stands_before here there ≡ true) first (filter is_some shares)
          (λ here there before. before)
          (chained_filter (λ (here there : ClassMove × ℤ). stands_before here.0 there.0 ≡ true) is_some shares
          (chained_of_moves shares chain)));
      positive = list_all_true (λ (count : ClassMove × ℤ). int_le (pos 0) count.1) (filter is_some shares)
          (each_filter (λ (count : ClassMove × ℤ). int_le (pos 0) count.1 ≡ true) is_some shares
          (each_gives (λ (count : ClassMove × ℤ). pos 0 ≤ℤ count.1)
          (λ (count : ClassMove × ℤ). int_le (pos 0) count.1 ≡ true) shares
          (λ count low. low_told count.1 low) out.low));
      adds = sum_kept_counts shares ∙ out.adds;
    }

-- ---- rows that are not at fault

tests_pass : (allowed undecided plays ordered legal rising positive adds : Bool)
    → allowed ≡ true → undecided ≡ true → plays ≡ true → ordered ≡ true → legal ≡ true → rising ≡ true
    → positive ≡ true → adds ≡ true
    → (if not (allowed && (undecided && plays)) then Some History
    else if not ordered then Some Order
    else if not (legal && rising) then Some Illegal
    else if not positive then Some Negative
    else if not adds then Some Sum
    else None) ≡ None
tests_pass allowed undecided plays ordered legal rising positive adds a u p o l r s d =
    rw a (rw u (rw p (rw o (rw l (rw r (rw s (rw d refl)))))))

-- a row that fits its turn
pub row_fits : (question : Question) (side : Side) (history : List ClassMove) (shares : Shares)
    (may_have stands : Bool) → FitsTurn question side history shares may_have stands
    → row_fault question side history shares may_have stands ≡ None
row_fits question side history shares may_have stands fits =
    let mass : ℤ = mass_of question side history in
    let sum : ℤ = sum_of (map (λ (count : ClassMove × ℤ). count.1) shares) in
    tests_pass may_have (goes_undecided (class_start question) history)
    (side.plays (class_turn (class_after question history))) stands
    (list_all (is_among (class_moves (class_after question history) side.counts)) (moves_of shares))
    (are_rising (moves_of shares)) (list_all (λ (count : ClassMove × ℤ). int_le (pos 0) count.1) shares)
    (int_eq sum mass) fits.allowed fits.undecided fits.plays fits.ordered fits.legal fits.rising fits.positive
    ((Decides-int_eq sum mass).1 fits.adds)

-- where no row is at fault no first fault is found
pub faultless_ok : {R : Type 0} (fault : List R → R → Option PlanKind) (before rows : List R)
    → IsFaultless fault before rows → first_fault fault before rows ≡ Ok tt
unfolding first_fault IsFaultless
faultless_ok fault before [] fine = refl
faultless_ok fault before (row ∷ rows) fine =
    ap (λ (kind : Option PlanKind). at_row kind (length before + 1) (first_fault fault (before ++ row ∷ []) rows))
    fine.0
    ∙ faultless_ok fault (before ++ row ∷ []) rows fine.1

-- where all rows before pass a test the last one does
pub last_of_all : {R : Type 0} (passes : R → Bool) (rows : List R) → AllByRecursion (λ row. passes row ≡ true) rows
    → last_passes passes rows ≡ true
last_of_all passes [] each = refl
last_of_all passes (row ∷ []) each = each.0
last_of_all passes (row ∷ next ∷ rows) each = last_of_all passes (next ∷ rows) each.1

-- ---- undecided class histories

and_swap : (a b c : Bool) → (a && (b && c)) ≡ ((a && b) && c)
and_swap true b c = refl
and_swap false b c = refl

and_all : (b : Bool) → (b && true) ≡ b
and_all true = refl
and_all false = refl

-- one move more, from where play is not decided
pub undecided-push : (view : ClassView) (moves : List ClassMove) (move : ClassMove)
    → goes_undecided view (moves ++ move ∷ [])
    ≡ (goes_undecided view moves && not (class_decided (fold class_step view moves)))
unfolding goes_undecided
undecided-push view [] move = and_all (not (class_decided view))
undecided-push view (first ∷ moves) move =
    ap (λ (b : Bool). not (class_decided view) && b) (undecided-push (class_step view first) moves move)
    ∙ and_swap (not (class_decided view)) (goes_undecided (class_step view first) moves)
    (not (class_decided (fold class_step (class_step view first) moves)))
