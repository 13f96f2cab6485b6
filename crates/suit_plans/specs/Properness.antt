-- Which plans and defences are realisation plans, whose rows share out at each turn exactly the mass that came there,
-- and what is the first fault of one that is not.
use Rattle.std.specs.Prelude.{⊤, ◌≡◌, ℕ, ◌+◌, ◌&&◌, not, nat_lt, Bool, true, List, [], ◌∷◌, ◌++◌, Option, Some, None}
use Rattle.std.specs.Prelude.{Result, Ok, Err, map, length, if◌then◌else◌, ℤ, pos, ◌+ℤ◌, int_le}
use Rattle.std.specs.List.{list_any, list_all}
use Rattle.std.specs.Ordering.{int_eq}
use Rattle.suit_cards.specs.Cards.{ClassLayout}
use Rattle.suit_game.specs.declared.question.Question.{Question}
use Rattle.suit_classes.specs.declared.class_moves.ClassMove.{ClassMove}
use Rattle.suit_classes.specs.WhatIsAllowed.{allows, is_among}
use Rattle.suit_classes.specs.ClassMoves.{ClassHistory}
use Rattle.suit_classes.specs.MoveOrder.{stands_before}
use Rattle.suit_classes.specs.declared.class_view.ClassView.{ClassView}
use Rattle.suit_classes.specs.ClassPlaces.{class_after, class_decided, class_moves, class_start, class_step, class_turn}
use Rattle.suit_classes.specs.Classes.{sizes_of}
use Rattle.suit_plans.specs.declared.plan.TheConstants.{MOST_DEN}
use Rattle.suit_plans.specs.declared.plan.Row.{Row}
use Rattle.suit_plans.specs.declared.plan.Plan.{Plan}
use Rattle.suit_plans.specs.declared.defence.DefenceRow.{DefenceRow}
use Rattle.suit_plans.specs.declared.defence.Defence.{Defence}
use Rattle.suit_plans.specs.declared.faults.PlanFault.{PlanFault}
use Rattle.suit_plans.specs.declared.faults.PlanKind.{PlanKind}
use Rattle.suit_plans.specs.declared.faults.PlanKind.TheVariants.{Den, History, Order, Illegal, Negative, Sum, Layout}
use Rattle.suit_plans.specs.Masses.{Shares, Side, declarer, defenders, mass_of, weight_of}
use Rattle.suit_plans.specs.Orders.{defence_row_before, plan_row_before}
use Rattle.suit_layouts.specs.ClassLayouts.{class_layouts}

-- whether none of the positions is decided at which some moves are made, from one on
unfoldable pub goes_undecided : ClassView → List ClassMove → Bool
goes_undecided view [] = true
goes_undecided view (move ∷ moves) = not (class_decided view) && goes_undecided (class_step view move) moves

-- whether a side is on turn at a class history, and no beginning of the history is decided
abbrev pub has_turn : Question → Side → ClassHistory → Bool
has_turn question side history = goes_undecided (class_start question) history
    && side.plays (class_turn (class_after question history))

-- whether some class layout of positive weight allows a class history
unfoldable pub some_allows : Question → ClassHistory → Bool
some_allows question history =
    list_any (λ (layout : ClassLayout × ℕ). allows question layout.0 history)
    (class_layouts question (sizes_of question))

-- whether some moves stand in strictly rising order
unfoldable pub are_rising : List ClassMove → Bool
are_rising [] = true
are_rising (move ∷ []) = true
are_rising (move ∷ next ∷ moves) = stands_before move next && are_rising (next ∷ moves)

-- the sum of some whole numbers
unfoldable pub sum_of : List ℤ → ℤ
sum_of [] = pos 0
sum_of (number ∷ numbers) = number +ℤ sum_of numbers

-- the moves that are named
abbrev pub moves_of : Shares → List ClassMove
moves_of shares = map (λ (count : ClassMove × ℤ). count.0) shares

-- what is at fault with the shares of a row, where the legal moves and the mass are given
abbrev pub shares_fault : ClassHistory → ℤ → Shares → Option PlanKind
shares_fault legal mass shares =
    if not (list_all (is_among legal) (moves_of shares) && are_rising (moves_of shares)) then Some Illegal
    else if not (list_all (λ (count : ClassMove × ℤ). int_le (pos 0) count.1) shares) then Some Negative
    else if not (int_eq (sum_of (map (λ (count : ClassMove × ℤ). count.1) shares)) mass) then Some Sum
    else None

-- what is at fault with a row of a side at a class history, where it is told whether the class layouts allow the
-- history and whether the row stands after the one before it
abbrev pub row_fault : Question → Side → ClassHistory → Shares → Bool → Bool → Option PlanKind
row_fault question side history shares allowed ordered =
    if not (allowed && has_turn question side history) then Some History
    else if not ordered then Some Order
    else shares_fault (class_moves (class_after question history) side.counts) (mass_of question side history) shares

-- whether there is no row before, or the last one passes a test
abbrev pub last_passes : {R : Type 0} → (R → Bool) → List R → Bool
last_passes passes [] = true
last_passes passes (row ∷ []) = passes row
last_passes passes (row ∷ next ∷ rows) = last_passes passes (next ∷ rows)

-- what is at fault with a row of a plan after the rows before it
abbrev pub plan_row_fault : Question → ℤ → List Row → Row → Option PlanKind
plan_row_fault question den before row =
    row_fault question (declarer den before) row.history row.counts (some_allows question row.history)
    (last_passes (λ (last : Row). plan_row_before last row) before)

-- what is at fault with a row of a defence after the rows before it
abbrev pub defence_row_fault : Question → ℤ → List DefenceRow → DefenceRow → Option PlanKind
defence_row_fault question den before row =
    if not (nat_lt 0 (weight_of question row.west)) then Some Layout
    else row_fault question (defenders question den before row.west) row.history row.counts
    (allows question row.west row.history)
    (last_passes (λ (last : DefenceRow). defence_row_before last row) before)

-- the fault of a row, which is told by the number of the row, counted from 1
abbrev pub at_row : Option PlanKind → ℕ → Result ⊤ PlanFault → Result ⊤ PlanFault
at_row (Some kind) row later = Err (record { kind = kind; row = row })
at_row None row later = later

-- the first fault of some rows, where the rows before them are given
unfoldable pub first_fault : {R : Type 0} → (List R → R → Option PlanKind) → List R → List R → Result ⊤ PlanFault
first_fault fault before [] = Ok tt
first_fault fault before (row ∷ rows) =
    at_row (fault before row) (length before + 1) (first_fault fault (before ++ row ∷ []) rows)

-- the fault of a denominator stands first, with row 0
abbrev pub after_den : ℤ → Result ⊤ PlanFault → Result ⊤ PlanFault
after_den den rows = if int_le (pos 1) den && int_le den MOST_DEN then rows else Err (record { kind = Den; row = 0 })

-- what the test of a plan answers: nothing is at fault, or the first fault
unfoldable pub plan_verdict : Question → Plan → Result ⊤ PlanFault
plan_verdict question plan = after_den plan.den (first_fault (plan_row_fault question plan.den) [] plan.rows)

-- what the test of a defence answers
unfoldable pub defence_verdict : Question → Defence → Result ⊤ PlanFault
defence_verdict question defence =
    after_den defence.den (first_fault (defence_row_fault question defence.den) [] defence.rows)

-- a plan with no fault is proper, and so is a defence
abbrev pub IsProperPlan : Question → Plan → Type 0
IsProperPlan question plan = plan_verdict question plan ≡ Ok tt

abbrev pub IsProperDefence : Question → Defence → Type 0
IsProperDefence question defence = defence_verdict question defence ≡ Ok tt
