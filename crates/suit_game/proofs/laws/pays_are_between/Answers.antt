use Rattle.suit_game.proofs.PaysKeepWhatMovesKeep.{pays_are_between}
use Rattle.suit_game.proofs.laws.pays_are_between.Goals as goal

pub returns : goal.returns
returns c = pays_are_between
