-- The order of class moves, in which all lists of them stand.
use Rattle.std.specs.Prelude.{◌≡◌, ℕ, ◌==◌, ◌&&◌, ◌||◌, nat_lt, Bool, true, List, AllPairs}
use Rattle.suit_cards.specs.Cards.{ClassLayout}
use Rattle.suit_cards.specs.declared.seats.Seat.TheVariants.{N, E, S, W}
use Rattle.suit_classes.specs.declared.class_moves.ClassMove.{ClassMove}
use Rattle.suit_classes.specs.declared.class_moves.ClassMove.TheVariants.{Lead, Follow, ShowOut}
use Rattle.suit_classes.specs.WhatIsAllowed.{every_move}
use Rattle.suit_classes.specs.ClassPlaces.{ClassView, class_moves}

-- leads of North, leads of South, follows and showing out, in this order; leads of a defender, which never come, stand
-- where the seat does
abbrev pub kind_of : ClassMove → ℕ
kind_of (Lead N class) = 0
kind_of (Lead E class) = 1
kind_of (Lead S class) = 2
kind_of (Lead W class) = 3
kind_of (Follow class) = 4
kind_of ShowOut = 5

-- the class that a move names
abbrev pub class_named : ClassMove → ℕ
class_named (Lead seat class) = class
class_named (Follow class) = class
class_named ShowOut = 0

-- within a kind the class numbers rise
abbrev pub stands_before : ClassMove → ClassMove → Bool
stands_before here there =
    nat_lt (kind_of here) (kind_of there) ||
    (kind_of here == kind_of there && nat_lt (class_named here) (class_named there))

-- each move of a list stands before those after it
abbrev pub AreRising : List ClassMove → Type 0
AreRising moves = AllPairs (λ here there. stands_before here there ≡ true) moves

-- the moves at a class place, whatever West's counts are
abbrev pub ClassMovesRise : Type 0
ClassMovesRise = (view : ClassView) (counts : ClassLayout) → AreRising (class_moves view counts)

-- and all class moves
abbrev pub EveryMoveRises : Type 0
EveryMoveRises = AreRising every_move
