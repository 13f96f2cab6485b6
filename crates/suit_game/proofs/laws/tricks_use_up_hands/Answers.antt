use Rattle.suit_game.proofs.EachPlaceIsReached.{tricks_use_up_hands}
use Rattle.suit_game.proofs.laws.tricks_use_up_hands.Goals as goal

pub returns : goal.returns
returns c = tricks_use_up_hands
