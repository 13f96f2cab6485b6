use Rattle.suit_game.proofs.EnoughMoves.{played_is_legal}
use Rattle.suit_game.proofs.laws.played_is_legal.Goals as goal

pub returns : goal.returns
returns c = played_is_legal
