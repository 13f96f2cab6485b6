use Rattle.suit_check.proofs.VerdictsMet.{valid_is_met}
use Rattle.suit_check.proofs.laws.valid_is_met.Goals as goal

pub returns : goal.returns
returns c = valid_is_met
