use Rattle.suit_simplex.proofs.RunsByEvaluation.{two_columns_short}
use Rattle.suit_simplex.proofs.examples.two_columns_short.Goals as goal

pub returns : goal.returns
returns c = two_columns_short
