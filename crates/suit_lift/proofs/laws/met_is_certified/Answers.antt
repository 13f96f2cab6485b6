use Rattle.suit_lift.proofs.OneValue.{met_is_certified}
use Rattle.suit_lift.proofs.laws.met_is_certified.Goals as goal

pub returns : goal.returns
returns c = met_is_certified
