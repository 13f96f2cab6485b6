use Rattle.suit_lift.proofs.DefenceNamesLayouts.{layout_share}
use Rattle.suit_lift.proofs.laws.layout_share.Goals as goal

pub returns : goal.returns
returns c = layout_share
