use Rattle.suit_simplex.proofs.RunsByEvaluation.{two_wide_rows}
use Rattle.suit_simplex.proofs.examples.two_wide_rows.Goals as goal

pub returns : goal.returns
returns c = two_wide_rows
