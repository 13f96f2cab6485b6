use Rattle.suit_simplex.proofs.RunsByEvaluation.{two_columns_begin}
use Rattle.suit_simplex.proofs.examples.two_columns_begin.Goals as goal

pub returns : goal.returns
returns c = two_columns_begin
