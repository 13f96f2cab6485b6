-- What it says of rows that no first fault is found among them.
use Rattle.std.proofs.Common.{◌≡◌, ℕ, Bool, true, false, not, ◌&&◌, List, [], ◌∷◌, ◌++◌, Option, Some, None, Result, Ok}
use Rattle.std.proofs.Common.{Err, map, refl, sym, subst, append_assoc, append-nil}
use Rattle.std.specs.Prelude.{ℤ, pos, ◌^◌, ⊤, int_le, if◌then◌else◌}
use Rattle.std.specs.List.{list_all}
use Rattle.std.specs.Ordering.{int_eq}
use Rattle.std.proofs.lemmas.Bool.Decides.{Decides-int_eq}
use Rattle.suit_game.specs.declared.question.Question.{Question}
use Rattle.suit_classes.specs.declared.class_moves.ClassMove.{ClassMove}
use Rattle.suit_classes.specs.WhatIsAllowed.{is_among}
use Rattle.suit_classes.specs.ClassPlaces.{class_after, class_moves, class_start, class_turn}
use Rattle.suit_plans.specs.declared.faults.PlanFault.{PlanFault}
use Rattle.suit_plans.specs.declared.faults.PlanKind.{PlanKind}
use Rattle.suit_plans.specs.declared.faults.PlanKind.TheVariants.{History, Order, Illegal, Negative, Sum}
use Rattle.suit_plans.specs.Masses.{Shares, Side, mass_of}
use Rattle.suit_plans.specs.Properness.{after_den, are_rising, at_row, first_fault, moves_of, row_fault, goes_undecided}
use Rattle.suit_plans.specs.Properness.{sum_of}
use Rattle.suit_plans.specs.declared.plan.TheConstants.{MOST_DEN}
use Rattle.suit_classes.specs.ClassMoves.{ClassHistory}

err_is_not : (verdict : Result ⊤ PlanFault) (fault : PlanFault) → verdict ≡ Err fault → verdict ≡ Ok tt → ⊥
err_is_not verdict fault same fine = absurd (cc)

some_is_not : (kind : PlanKind) → Some kind ≡ None → ⊥
some_is_not kind same = absurd (cc)

-- no row of a list is at fault after those before it
unfoldable pub IsFaultless : {R : Type 0} → (List R → R → Option PlanKind) → List R → List R → Type 0
IsFaultless fault before [] = Unit {0}
IsFaultless fault before (row ∷ rows) = (fault before row ≡ None) × IsFaultless fault (before ++ row ∷ []) rows

at_row_parts : (kind : Option PlanKind) (row : ℕ) (later : Result ⊤ PlanFault) → at_row kind row later ≡ Ok tt
    → (kind ≡ None) × (later ≡ Ok tt)
at_row_parts (Some kind) row later fine = absurd (err_is_not _ _ refl fine)
at_row_parts None row later fine = (refl, fine)

-- where no first fault is found no row is at fault
pub IsFaultless-from : {R : Type 0} (fault : List R → R → Option PlanKind) (before rows : List R)
    → first_fault fault before rows ≡ Ok tt → IsFaultless fault before rows
unfolding first_fault IsFaultless
IsFaultless-from fault before [] fine = tt
IsFaultless-from fault before (row ∷ rows) fine =
    let parts = at_row_parts (fault before row) _ (first_fault fault (before ++ row ∷ []) rows) fine in
    (parts.0, IsFaultless-from fault (before ++ row ∷ []) rows parts.1)

-- so wherever a list without faults is parted, the row there is not at fault after those before it
pub faultless_at : {R : Type 0} (fault : List R → R → Option PlanKind) (before start : List R) (row : R) (rest : List R)
    → IsFaultless fault before (start ++ row ∷ rest) → fault (before ++ start) row ≡ None
unfolding IsFaultless
faultless_at {R} fault before [] row rest fine =
    subst (λ (l : List R). fault l row ≡ None) (sym (append-nil before)) fine.0
faultless_at {R} fault before (first ∷ start) row rest fine =
    subst (λ (l : List R). fault l row ≡ None) (append_assoc before (first ∷ []) start)
    (faultless_at fault (before ++ first ∷ []) start row rest fine.1)

den_parts : (least most : Bool) (rows : Result ⊤ PlanFault) (fault : PlanFault)
    → (if least && most then rows else Err fault) ≡ Ok tt → (least ≡ true) × (most ≡ true) × (rows ≡ Ok tt)
den_parts true true rows fault fine = (refl, refl, fine)
den_parts true false rows fault fine = absurd (err_is_not _ _ refl fine)
den_parts false most rows fault fine = absurd (err_is_not _ _ refl fine)

-- where neither the denominator nor a row is at fault the denominator is within its bounds, and no row is at fault
pub after_den-parts : (den : ℤ) (rows : Result ⊤ PlanFault) → after_den den rows ≡ Ok tt → (int_le (pos 1) den ≡ true)
    × (int_le den (MOST_DEN) ≡ true) × (rows ≡ Ok tt)
after_den-parts den rows fine = den_parts (int_le (pos 1) den) (int_le den (MOST_DEN)) rows _ fine

-- a row that is not at fault shares out the mass of its history among legal moves
pub record FitsTurn (question : Question) (side : Side) (history : ClassHistory) (shares : Shares)
    (may_have stands : Bool) : Type 0 where
  -- the history may have a row, stays undecided, and it is the side's turn there
  pub allowed : may_have ≡ true
  pub undecided : goes_undecided (class_start question) history ≡ true
  pub plays : side.plays (class_turn (class_after question history)) ≡ true
  -- the row stands after the one before it
  pub ordered : stands ≡ true
  -- its moves are legal and rise, no count is negative, and the counts add up to the mass
  pub legal : list_all (is_among (class_moves (class_after question history) side.counts)) (moves_of shares) ≡ true
  pub rising : are_rising (moves_of shares) ≡ true
  pub positive : list_all (λ (count : ClassMove × ℤ). int_le (pos 0) count.1) shares ≡ true
  pub adds : sum_of (map (λ (count : ClassMove × ℤ). count.1) shares) ≡ mass_of question side history

tests_passed : (legal rising positive adds allowed undecided plays ordered : Bool)
    → (if not (allowed && (undecided && plays)) then Some History
    else if not ordered then Some Order
    else if not (legal && rising) then Some Illegal
    else if not positive then Some Negative
    else if not adds then Some Sum
    else None) ≡ None
    → (allowed ≡ true) × (undecided ≡ true) × (plays ≡ true) × (ordered ≡ true) × (legal ≡ true) × (rising ≡ true)
    × (positive ≡ true) × (adds ≡ true)
tests_passed legal rising positive adds false undecided plays ordered none = absurd (some_is_not _ none)
tests_passed legal rising positive adds true false plays ordered none = absurd (some_is_not _ none)
tests_passed legal rising positive adds true true false ordered none = absurd (some_is_not _ none)
tests_passed legal rising positive adds true true true false none = absurd (some_is_not _ none)
tests_passed false rising positive adds true true true true none = absurd (some_is_not _ none)
tests_passed true false positive adds true true true true none = absurd (some_is_not _ none)
tests_passed true true false adds true true true true none = absurd (some_is_not _ none)
tests_passed true true true false true true true true none = absurd (some_is_not _ none)
tests_passed true true true true true true true true none = (refl, refl, refl, refl, refl, refl, refl, refl)

-- what is known of a row that is not at fault
pub FitsTurn-from : (question : Question) (side : Side) (history : ClassHistory) (shares : Shares)
    (may_have stands : Bool)
    → row_fault question side history shares may_have stands ≡ None
    → FitsTurn question side history shares may_have stands
FitsTurn-from question side history shares may_have stands none =
    let legal : Bool = list_all (is_among (class_moves (class_after question history) side.counts)) (moves_of shares) in
    let positive : Bool = list_all (λ (count : ClassMove × ℤ). int_le (pos 0) count.1) shares in
    let mass : ℤ = mass_of question side history in
    let sum : ℤ = sum_of (map (λ (count : ClassMove × ℤ). count.1) shares) in
    let parts = tests_passed legal (are_rising (moves_of shares)) positive (int_eq sum mass) may_have
    (goes_undecided (class_start question) history) (side.plays (class_turn (class_after question history)))
    stands none in
    record {
      allowed = parts.0;
      undecided = parts.1;
      plays = parts.2;
      ordered = parts.3;
      legal = parts.4;
      rising = parts.5;
      positive = parts.6;
      adds = (Decides-int_eq sum mass).0 parts.7;
    }
