use Rattle.suit_game.proofs.LongestPlay.{histories_are_short}
use Rattle.suit_game.proofs.laws.histories_are_short.Goals as goal

pub returns : goal.returns
returns c = histories_are_short
