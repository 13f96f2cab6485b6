use Rattle.suit_game.proofs.PayDenominators.{pay-den}
use Rattle.suit_game.proofs.laws.pays_are_fractions.Goals as goal

pub returns : goal.returns
returns c = pay-den
