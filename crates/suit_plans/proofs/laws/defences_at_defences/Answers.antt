use Rattle.suit_plans.proofs.DefenceWorths.{defences_at_defences}
use Rattle.suit_plans.proofs.laws.defences_at_defences.Goals as goal

pub returns : goal.returns
returns c = defences_at_defences
