use Rattle.suit_simplex.proofs.RunsByEvaluation.{nothing_gained}
use Rattle.suit_simplex.proofs.examples.nothing_gained.Goals as goal

pub returns : goal.returns
returns c = nothing_gained
