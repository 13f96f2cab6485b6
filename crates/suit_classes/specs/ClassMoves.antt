-- Class moves: moves of single cards, told by their classes alone, histories of them, and the order in which they
-- stand.
use Rattle.std.specs.Prelude.{◌==◌, ◌&&◌, Bool, true, false, List, map}
use Rattle.suit_game.specs.Histories.{History}
use Rattle.suit_game.specs.Strategies.{same_seat}
use Rattle.suit_game.specs.declared.moves.Move.{Move}
use Rattle.suit_game.specs.declared.moves.Move.TheVariants as cards
use Rattle.suit_classes.specs.declared.class_moves.ClassMove.{ClassMove}
use Rattle.suit_classes.specs.declared.class_moves.ClassMove.TheVariants.{Lead, Follow, ShowOut}
use Rattle.suit_classes.specs.Classes.{Hands, class_of}

-- the class moves made so far, the first one first
abbrev pub ClassHistory : Type 0
ClassHistory = List ClassMove

-- a move with its card replaced by the card's class
abbrev pub merge : Hands → Move → ClassMove
merge hands (cards.Lead seat rank) = Lead seat (class_of hands rank)
merge hands (cards.Follow rank) = Follow (class_of hands rank)
merge hands cards.ShowOut = ShowOut

-- a history with each card replaced by its class
abbrev pub merged : Hands → History → ClassHistory
merged hands history = map (merge hands) history

abbrev pub same_class_move : ClassMove → ClassMove → Bool
same_class_move (Lead seat class) (Lead other number) = same_seat seat other && (class == number)
same_class_move (Follow class) (Follow number) = class == number
same_class_move ShowOut ShowOut = true
same_class_move _ _ = false
