-- When two class moves are the same, and when one is among some.
use Rattle.std.proofs.Common.{◌≡◌, ◌&&◌, Bool, true, false, List, [], ◌∷◌, refl, sym, ap, ◌∙◌, subst, inl, inr}
use Rattle.std.specs.Prelude.{◌==◌, Contains}
use Rattle.std.specs.Bool.{Decides}
use Rattle.std.proofs.lemmas.Bool.{and_parts, eq-eqb, eqb-true, false≢true, or_cases, or_left, or_right}
use Rattle.suit_lists.proofs.Elements.{Contains-cons_cases, Contains-first, Contains-later, Contains-nil}
use Rattle.suit_cards.specs.declared.seats.Seat.{Seat}
use Rattle.suit_cards.specs.declared.seats.Seat.TheVariants.{N, E, S, W}
use Rattle.suit_game.specs.Strategies.{same_seat}
use Rattle.suit_game.proofs.TrickStates.{same_seat_is}
use Rattle.suit_classes.specs.declared.class_moves.ClassMove.{ClassMove}
use Rattle.suit_classes.specs.declared.class_moves.ClassMove.TheVariants.{Lead, Follow, ShowOut}
use Rattle.suit_classes.specs.ClassMoves.{same_class_move}
use Rattle.suit_classes.specs.WhatIsAllowed.{is_among}

-- a move is the same as itself
pub same_move-itself : (move : ClassMove) → same_class_move move move ≡ true
same_move-itself (Lead N class) = eq-eqb class class refl
same_move-itself (Lead E class) = eq-eqb class class refl
same_move-itself (Lead S class) = eq-eqb class class refl
same_move-itself (Lead W class) = eq-eqb class class refl
same_move-itself (Follow class) = eq-eqb class class refl
same_move-itself ShowOut = refl

-- and only as itself
pub same_move_is : (move other : ClassMove) → same_class_move move other ≡ true → move ≡ other
same_move_is (Lead seat class) (Lead other number) same =
    let parts = and_parts (same_seat seat other) (class == number) same in
    ap (λ (s : Seat). Lead s class) (same_seat_is seat other parts.0) ∙ ap (Lead other) (eqb-true class number parts.1)
same_move_is (Follow class) (Follow number) same = ap Follow (eqb-true class number same)
same_move_is ShowOut ShowOut same = refl
same_move_is (Lead seat class) (Follow number) same = absurd (false≢true same)
same_move_is (Lead seat class) ShowOut same = absurd (false≢true same)
same_move_is (Follow class) (Lead other number) same = absurd (false≢true same)
same_move_is (Follow class) ShowOut same = absurd (false≢true same)
same_move_is ShowOut (Lead other number) same = absurd (false≢true same)
same_move_is ShowOut (Follow number) same = absurd (false≢true same)

-- what a list contains is among it
pub among_contained : (moves : List ClassMove) (move : ClassMove) → Contains moves move → is_among moves move ≡ true
unfolding is_among
among_contained [] move found = absurd (Contains-nil move found)
among_contained (first ∷ moves) move found = elim (Contains-cons_cases first moves move found) [
  | inl here ↦
      or_left (same_class_move move first) (is_among moves move)
      (ap (same_class_move move) here ∙ same_move-itself move)
  | inr there ↦ or_right (same_class_move move first) (is_among moves move) (among_contained moves move there)
]

-- a move is told to be among some where it is one of them
pub among-Contains : (moves : List ClassMove) (move : ClassMove) → is_among moves move ≡ true → Contains moves move
unfolding is_among
among-Contains [] move among = absurd (false≢true among)
among-Contains (first ∷ moves) move among = elim (or_cases (same_class_move move first) (is_among moves move) among) [
  | inl here ↦
      subst (λ (m : ClassMove). Contains (first ∷ moves) m) (sym (same_move_is move first here))
      (Contains-first first moves)
  | inr there ↦ Contains-later first moves move (among-Contains moves move there)
]

-- so the test of being among some tells what a list contains
pub among_decides : (moves : List ClassMove) (move : ClassMove) → Decides (is_among moves move) (Contains moves move)
among_decides moves move = (among-Contains moves move, among_contained moves move)

-- where the second test passes alone if the first does, both pass where the second does
pub both_second : (b c : Bool) → (c ≡ true → b ≡ true) → (b && c) ≡ c
both_second true c gives = refl
both_second false true gives = gives refl
both_second false false gives = refl
