use Rattle.suit_lift.proofs.DefenceNamesLayouts.{naming_law}
use Rattle.suit_lift.proofs.laws.naming_law.Goals as goal

pub returns : goal.returns
returns c = naming_law
