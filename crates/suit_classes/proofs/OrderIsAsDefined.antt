-- The derived tests and order of class moves are those of their definitions, also at histories.
use Rattle.std.proofs.Common.{◌≡◌, ℕ, Bool, ◌||◌, List, [], ◌∷◌, cond, Ordering, Some, refl, ap, ◌∙◌, arith}
use Rattle.std.specs.List.{list_any}
use Rattle.std.proofs.lemmas.Bool.Decides.{nat_tests}
use Rattle.std.specs.Prelude.{◌==◌}
use Rattle.std.specs.declared.cmp.Ordering.TheVariants.{Less, Equal, Greater}
use Rattle.suit_cards.specs.declared.seats.Seat.TheVariants.{N, E, S, W}
use Rattle.suit_classes.specs.declared.class_moves.ClassMove.{ClassMove}
use Rattle.suit_classes.specs.declared.class_moves.ClassMove.TheVariants.{Lead, Follow, ShowOut}
use Rattle.suit_classes.specs.contracts.class_moves.ClassMovePartialEq.TheImpl as equal
use Rattle.suit_classes.specs.contracts.class_moves.ClassMovePartialOrd.TheImpl as order
use Rattle.suit_classes.specs.WhatIsAllowed.{is_among}
use Rattle.suit_classes.specs.ClassMoves.{same_class_move}
use Rattle.suit_classes.specs.MoveOrder.{stands_before}

-- the derived equality tells which moves are the same
pub eq_same : (x y : ClassMove) → equal.ghosts.eq x y ≡ same_class_move x y
eq_same (Lead N class) (Lead N number) = refl
eq_same (Lead E class) (Lead E number) = refl
eq_same (Lead S class) (Lead S number) = refl
eq_same (Lead W class) (Lead W number) = refl
eq_same (Lead N class) (Lead E number) = refl
eq_same (Lead N class) (Lead S number) = refl
eq_same (Lead N class) (Lead W number) = refl
eq_same (Lead E class) (Lead N number) = refl
eq_same (Lead E class) (Lead S number) = refl
eq_same (Lead E class) (Lead W number) = refl
eq_same (Lead S class) (Lead N number) = refl
eq_same (Lead S class) (Lead E number) = refl
eq_same (Lead S class) (Lead W number) = refl
eq_same (Lead W class) (Lead N number) = refl
eq_same (Lead W class) (Lead E number) = refl
eq_same (Lead W class) (Lead S number) = refl
eq_same (Follow class) (Follow number) = refl
eq_same ShowOut ShowOut = refl
eq_same (Lead seat class) (Follow number) = refl
eq_same (Lead seat class) ShowOut = refl
eq_same (Follow class) (Lead other number) = refl
eq_same (Follow class) ShowOut = refl
eq_same ShowOut (Lead other number) = refl
eq_same ShowOut (Follow number) = refl

-- how a move stands to another
abbrev pub standing : ClassMove → ClassMove → Ordering
standing x y = cond (stands_before x y) Less (cond (same_class_move x y) Equal Greater)

-- the derived order tells it
pub cmp_stands : (x y : ClassMove) → order.ghosts.partial_cmp x y ≡ Some (standing x y)
cmp_stands (Lead N class) (Lead N number) = refl
cmp_stands (Lead E class) (Lead E number) = refl
cmp_stands (Lead S class) (Lead S number) = refl
cmp_stands (Lead W class) (Lead W number) = refl
cmp_stands (Lead N class) (Lead E number) = refl
cmp_stands (Lead N class) (Lead S number) = refl
cmp_stands (Lead N class) (Lead W number) = refl
cmp_stands (Lead E class) (Lead N number) = refl
cmp_stands (Lead E class) (Lead S number) = refl
cmp_stands (Lead E class) (Lead W number) = refl
cmp_stands (Lead S class) (Lead N number) = refl
cmp_stands (Lead S class) (Lead E number) = refl
cmp_stands (Lead S class) (Lead W number) = refl
cmp_stands (Lead W class) (Lead N number) = refl
cmp_stands (Lead W class) (Lead E number) = refl
cmp_stands (Lead W class) (Lead S number) = refl
cmp_stands (Follow class) (Follow number) = refl
cmp_stands ShowOut ShowOut = refl
cmp_stands (Lead N class) (Follow number) = refl
cmp_stands (Lead E class) (Follow number) = refl
cmp_stands (Lead S class) (Follow number) = refl
cmp_stands (Lead W class) (Follow number) = refl
cmp_stands (Lead N class) ShowOut = refl
cmp_stands (Lead E class) ShowOut = refl
cmp_stands (Lead S class) ShowOut = refl
cmp_stands (Lead W class) ShowOut = refl
cmp_stands (Follow class) (Lead N number) = refl
cmp_stands (Follow class) (Lead E number) = refl
cmp_stands (Follow class) (Lead S number) = refl
cmp_stands (Follow class) (Lead W number) = refl
cmp_stands (Follow class) ShowOut = refl
cmp_stands ShowOut (Lead N number) = refl
cmp_stands ShowOut (Lead E number) = refl
cmp_stands ShowOut (Lead S number) = refl
cmp_stands ShowOut (Lead W number) = refl
cmp_stands ShowOut (Follow number) = refl

either_way : (m n : ℕ) → m == n ≡ n == m
either_way m n = grind (arith, nat_tests)

-- the derived equality asked the other way round
pub eq_same-swapped : (x y : ClassMove) → equal.ghosts.eq x y ≡ same_class_move y x
eq_same-swapped (Lead N class) (Lead N number) = either_way class number
eq_same-swapped (Lead N class) (Lead E number) = refl
eq_same-swapped (Lead N class) (Lead S number) = refl
eq_same-swapped (Lead N class) (Lead W number) = refl
eq_same-swapped (Lead E class) (Lead N number) = refl
eq_same-swapped (Lead E class) (Lead E number) = either_way class number
eq_same-swapped (Lead E class) (Lead S number) = refl
eq_same-swapped (Lead E class) (Lead W number) = refl
eq_same-swapped (Lead S class) (Lead N number) = refl
eq_same-swapped (Lead S class) (Lead E number) = refl
eq_same-swapped (Lead S class) (Lead S number) = either_way class number
eq_same-swapped (Lead S class) (Lead W number) = refl
eq_same-swapped (Lead W class) (Lead N number) = refl
eq_same-swapped (Lead W class) (Lead E number) = refl
eq_same-swapped (Lead W class) (Lead S number) = refl
eq_same-swapped (Lead W class) (Lead W number) = either_way class number
eq_same-swapped (Follow class) (Follow number) = either_way class number
eq_same-swapped ShowOut ShowOut = refl
eq_same-swapped (Lead seat class) (Follow number) = refl
eq_same-swapped (Lead seat class) ShowOut = refl
eq_same-swapped (Follow class) (Lead other number) = refl
eq_same-swapped (Follow class) ShowOut = refl
eq_same-swapped ShowOut (Lead other number) = refl
eq_same-swapped ShowOut (Follow number) = refl

-- a list of moves is asked for a move as is_among asks
pub any_among : (moves : List ClassMove) (move : ClassMove)
    → list_any (λ held. equal.ghosts.eq held move) moves ≡ is_among moves move
unfolding is_among
any_among [] move = refl
any_among (held ∷ rest) move =
    ap (λ (b : Bool). b || list_any (λ other. equal.ghosts.eq other move) rest) (eq_same-swapped held move)
    ∙ ap (λ (b : Bool). same_class_move move held || b) (any_among rest move)
