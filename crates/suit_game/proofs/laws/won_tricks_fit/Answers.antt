use Rattle.suit_game.proofs.EachPlaceIsReached.{won_tricks_fit}
use Rattle.suit_game.proofs.laws.won_tricks_fit.Goals as goal

pub returns : goal.returns
returns c = won_tricks_fit
