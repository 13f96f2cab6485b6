use Rattle.suit_linear.proofs.SmallTableaus.{next_small}
use Rattle.suit_linear.proofs.laws.small_pivots_are_made.Goals as goal

pub returns : goal.returns
returns c = next_small
