use Rattle.suit_game.proofs.EnoughMoves.{enough_moves}
use Rattle.suit_game.proofs.laws.enough_moves.Goals as goal

pub returns : goal.returns
returns c = λ question declarer defence west history enough plenty. enough_moves enough plenty question declarer defence
    west history
