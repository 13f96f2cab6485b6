use Rattle.suit_game.proofs.EachPlaceIsReached.{thirteen_tricks}
use Rattle.suit_game.proofs.laws.thirteen_tricks.Goals as goal

pub returns : goal.returns
returns c = thirteen_tricks
