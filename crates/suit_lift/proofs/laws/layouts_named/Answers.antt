use Rattle.suit_lift.proofs.DefenceNamesLayouts.{layouts_named}
use Rattle.suit_lift.proofs.laws.layouts_named.Goals as goal

pub returns : goal.returns
returns c = layouts_named
