use Rattle.suit_classes.proofs.ClassGameAgrees.{class_places_tell_cards}
use Rattle.suit_classes.proofs.laws.class_places_tell_cards.Goals as goal

pub returns : goal.returns
returns c = class_places_tell_cards
