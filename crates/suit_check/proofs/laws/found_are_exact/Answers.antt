use Rattle.suit_check.proofs.VerdictsMet.{found_are_exact}
use Rattle.suit_check.proofs.laws.found_are_exact.Goals as goal

pub returns : goal.returns
returns c = found_are_exact
