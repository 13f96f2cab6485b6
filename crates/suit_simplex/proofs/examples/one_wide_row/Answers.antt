use Rattle.suit_simplex.proofs.RunsByEvaluation.{one_wide_row}
use Rattle.suit_simplex.proofs.examples.one_wide_row.Goals as goal

pub returns : goal.returns
returns c = one_wide_row
