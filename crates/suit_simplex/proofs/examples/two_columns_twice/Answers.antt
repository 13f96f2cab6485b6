use Rattle.suit_simplex.proofs.RunsByEvaluation.{two_columns_twice}
use Rattle.suit_simplex.proofs.examples.two_columns_twice.Goals as goal

pub returns : goal.returns
returns c = two_columns_twice
