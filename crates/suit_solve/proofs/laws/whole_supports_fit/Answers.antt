use Rattle.suit_solve.proofs.WholeSupports.{whole_supports_fit}
use Rattle.suit_solve.proofs.laws.whole_supports_fit.Goals as goal

pub returns : goal.returns
returns c = whole_supports_fit
