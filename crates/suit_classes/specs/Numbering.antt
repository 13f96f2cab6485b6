-- The class of each rank, as a list.
use Rattle.std.specs.Prelude.{map}
use Rattle.std.specs.List.{range_with_len}
use Rattle.suit_cards.specs.Cards.{Indices}
use Rattle.suit_classes.specs.declared.classes.TheConstants.{MOST_CLASSES}
use Rattle.suit_classes.specs.Classes.{Hands, class_below}

-- the class of each rank from the ace down
unfoldable pub numbers_of : Hands → Indices
numbers_of hands = map (class_below hands) (range_with_len 0 MOST_CLASSES)
