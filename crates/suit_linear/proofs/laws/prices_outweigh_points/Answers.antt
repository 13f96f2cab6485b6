use Rattle.suit_linear.proofs.WeakDuality.{prices_outweigh}
use Rattle.suit_linear.proofs.laws.prices_outweigh_points.Goals as goal

pub returns : goal.returns
returns c = prices_outweigh
