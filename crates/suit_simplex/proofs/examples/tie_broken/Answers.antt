use Rattle.suit_simplex.proofs.RunsByEvaluation.{tie_broken}
use Rattle.suit_simplex.proofs.examples.tie_broken.Goals as goal

pub returns : goal.returns
returns c = tie_broken
