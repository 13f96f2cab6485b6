use Rattle.suit_game.proofs.PayDenominators.{gain-den}
use Rattle.suit_game.proofs.laws.gains_are_fractions.Goals as goal

pub returns : goal.returns
returns c = gain-den
