use Rattle.suit_game.proofs.EnoughMoves.{pay_where_ended}
use Rattle.suit_game.proofs.laws.pay_where_ended.Goals as goal

pub returns : goal.returns
returns c = pay_where_ended
