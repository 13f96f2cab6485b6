use Rattle.suit_simplex.proofs.OneOptimum.{one_optimum}
use Rattle.suit_simplex.proofs.laws.last_tableaus_have_one_optimum.Goals as goal

pub returns : goal.returns
returns c = one_optimum
