-- Sums over rows and columns by their numbers, and how the accounts share out what is owed (`shared_out`).
use Rattle.std.proofs.Common.{◌≡◌, ℕ, suc, ◌+◌, List, [], ◌∷◌, ◌++◌, length, map, sym}
use Rattle.std.proofs.Common.{ap}
use Rattle.std.proofs.Common.{◌∙◌, subst, arith}
use Rattle.std.specs.Prelude.{Contains, ◌==◌, filter, if◌then◌else◌, ℤ, pos, ◌+ℤ◌}
use Rattle.std.proofs.lemmas.Int.{ints}
use Rattle.suit_lists.proofs.Maps.{map_same}
use Rattle.suit_classes.specs.declared.class_moves.ClassMove.{ClassMove}
use Rattle.suit_classes.specs.WhatIsAllowed.{is_among}
use Rattle.suit_plans.specs.Properness.{sum_of}
use Rattle.suit_plans.proofs.NumberSums.{sum_kept, sums_exchanged}
use Rattle.suit_program.specs.Walks.Ledgers.{Given}
use Rattle.suit_program.specs.Programs.Points.{Column, Point}
use Rattle.suit_program.specs.Programs.{Limit}
use Rattle.suit_program.specs.Walks.Writing.{AreGiven, told}

-- ---- rows and columns by number

pub at_zero : (first : ℕ) → first + 0 ≡ first
at_zero first = omega arith

pub at_next : (first n : ℕ) → suc first + n ≡ first + suc n
at_next first n = omega arith

alone : (x : ℤ) → x ≡ pos 0 +ℤ x
alone x = omega (arith, ints)

regroup : (a b c : ℤ) → a +ℤ (b +ℤ c) ≡ (a +ℤ b) +ℤ c
regroup a b c = omega (arith, ints)

pub told_append : (number : Limit → ℤ) (first : ℕ) (xs ys : List Limit) (row : ℕ)
    → told number first (xs ++ ys) row ≡ told number first xs row +ℤ told number (first + length xs) ys row
unfolding told
told_append number first [] ys row =
    alone (told number first ys row)
    ∙ ap (λ (n : ℕ). pos 0 +ℤ told number n ys row) (sym (at_zero first))
told_append number first (x ∷ xs) ys row =
    let here : ℤ = if first == row then number x else pos 0 in
    ap (λ (z : ℤ). here +ℤ z) (told_append number (suc first) xs ys row)
    ∙ regroup here (told number (suc first) xs row) (told number (suc first + length xs) ys row)
    ∙ ap (λ (n : ℕ). (here +ℤ told number (suc first) xs row) +ℤ told number n ys row) (at_next first (length xs))

pub given_append : (given : Given) (point : Point) (first : ℕ) (xs ys : List Column)
    → AreGiven given point first (xs ++ ys)
    → AreGiven given point first xs × AreGiven given point (first + length xs) ys
unfolding AreGiven
given_append given point first [] ys are =
    (tt, subst (λ (n : ℕ). AreGiven given point n ys) (sym (at_zero first)) are)
given_append given point first (x ∷ xs) ys are =
    let later = given_append given point (suc first) xs ys are.1 in (
      (are.0, later.0),
      subst (λ (n : ℕ). AreGiven given point n ys) (at_next first (length xs)) later.1,
    )

-- ---- what is shared out

-- of things that each go on with some moves those that go on with each move of all share out all of them
pub shared_out : {X : Type 0} (moves_in : X → List ClassMove) (g : ClassMove → X → ℤ) (xs : List X)
    (all : List ClassMove) → ((x : X) → Contains xs x → filter (is_among (moves_in x)) all ≡ moves_in x)
    → sum_of (map (λ move. sum_of (map (g move) (filter (λ x. is_among (moves_in x) move) xs))) all)
    ≡ sum_of (map (λ x. sum_of (map (λ move. g move x) (moves_in x))) xs)
shared_out {X} moves_in g xs all each =
    let goes : ClassMove → X → ℤ = λ move x. if is_among (moves_in x) move then g move x else pos 0 in
    ap sum_of (map_same (λ move. sum_of (map (g move) (filter (λ x. is_among (moves_in x) move) xs)))
    (λ move. sum_of (map (goes move) xs)) all
    (λ move found. sum_kept (λ x. is_among (moves_in x) move) (g move) xs))
    ∙ sums_exchanged goes all xs
    ∙ ap sum_of (map_same (λ x. sum_of (map (λ move. goes move x) all))
    (λ x. sum_of (map (λ move. g move x) (moves_in x))) xs
    (λ x found. sym (sum_kept (is_among (moves_in x)) (λ move. g move x) all)
    ∙ ap (λ (l : List ClassMove). sum_of (map (λ move. g move x) l)) (each x found)))
