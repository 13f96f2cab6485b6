-- Which class histories counts of West's allow, told from the positions.
use Rattle.std.specs.Prelude.{◌&&◌, Bool, true, List, [], ◌∷◌, ◌++◌, map}
use Rattle.std.specs.List.{list_any}
use Rattle.suit_cards.specs.declared.seats.Seat.TheVariants.{N, S}
use Rattle.suit_cards.specs.Cards.{ClassLayout}
use Rattle.suit_game.specs.declared.question.Question.{Question}
use Rattle.suit_classes.specs.declared.class_moves.ClassMove.{ClassMove}
use Rattle.suit_classes.specs.declared.class_moves.ClassMove.TheVariants.{Lead, Follow, ShowOut}
use Rattle.suit_classes.specs.ClassMoves.{ClassHistory, same_class_move}
use Rattle.suit_classes.specs.ClassPlaces.{ClassView, class_numbers, class_start, class_step, class_moves}

-- all class moves, in their order
unfoldable pub every_move : List ClassMove
every_move = map (Lead N) class_numbers ++ map (Lead S) class_numbers ++ map Follow class_numbers ++ ShowOut ∷ []

-- whether a move is among some
unfoldable pub is_among : List ClassMove → ClassMove → Bool
is_among moves move = list_any (same_class_move move) moves

-- whether counts of West's allow the moves of a list, one after the other, from a position on
unfoldable pub allows_from : ClassLayout → ClassView → ClassHistory → Bool
allows_from counts view [] = true
allows_from counts view (move ∷ moves) =
    is_among (class_moves view counts) move && allows_from counts (class_step view move) moves

-- whether they allow a class history
unfoldable pub allows : Question → ClassLayout → ClassHistory → Bool
allows question counts history = allows_from counts (class_start question) history
