use Rattle.suit_simplex.proofs.RunsByEvaluation.{unlimited}
use Rattle.suit_simplex.proofs.examples.unlimited.Goals as goal

pub returns : goal.returns
returns c = unlimited
