use Rattle.suit_simplex.proofs.RunsByEvaluation.{two_columns_once}
use Rattle.suit_simplex.proofs.examples.two_columns_once.Goals as goal

pub returns : goal.returns
returns c = two_columns_once
