-- Whether none of some class moves has a count (`none_counted`).
use Rattle.std.proofs.Common.{◌≡◌, Bool, true, List, [], ◌∷◌, refl}
use Rattle.std.specs.Prelude.{◌==◌, ℤ, Some, None}
use Rattle.std.specs.List.{list_all}
use Rattle.suit_classes.specs.declared.class_moves.ClassMove.{ClassMove}
use Rattle.suit_lift.specs.Lifts.{row_count}

-- whether no move has a count
abbrev pub none_counted : List (ClassMove × ℤ) → List ClassMove → Bool
none_counted counts moves = list_all (λ move. row_count (Some counts) move == 0) moves

pub none_without : (moves : List ClassMove) → list_all (λ move. row_count None move == 0) moves ≡ true
none_without [] = refl
none_without (move ∷ moves) = none_without moves
