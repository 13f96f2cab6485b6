use Rattle.suit_game.proofs.OneTrickHalves.{one_trick-settled}
use Rattle.suit_game.proofs.laws.one_trick_is_settled.Goals as goal

pub returns : goal.returns
returns c = one_trick-settled
