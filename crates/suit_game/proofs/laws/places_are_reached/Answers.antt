use Rattle.suit_game.proofs.EachPlaceIsReached.{places_are_reached}
use Rattle.suit_game.proofs.laws.places_are_reached.Goals as goal

pub returns : goal.returns
returns c = places_are_reached
