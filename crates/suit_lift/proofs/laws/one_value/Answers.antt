use Rattle.suit_lift.proofs.OneValue.{one_value}
use Rattle.suit_lift.proofs.laws.one_value.Goals as goal

pub returns : goal.returns
returns c = one_value
