use Rattle.suit_plans.proofs.DefenceWorths.{defences_paid}
use Rattle.suit_plans.proofs.laws.defences_are_paid.Goals as goal

pub returns : goal.returns
returns c = defences_paid
