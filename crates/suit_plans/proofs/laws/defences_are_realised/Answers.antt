use Rattle.suit_plans.proofs.ProperDefences.{defences_are_realised}
use Rattle.suit_plans.proofs.laws.defences_are_realised.Goals as goal

pub returns : goal.returns
returns c = defences_are_realised
