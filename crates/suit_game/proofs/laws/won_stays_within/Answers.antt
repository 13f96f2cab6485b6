use Rattle.suit_game.proofs.WonTricks.{won_stays_within}
use Rattle.suit_game.proofs.laws.won_stays_within.Goals as goal

pub returns : goal.returns
returns c = won_stays_within
