use Rattle.suit_plans.proofs.DefenceWorths.{defences_at_declarers}
use Rattle.suit_plans.proofs.laws.defences_at_declarers.Goals as goal

pub returns : goal.returns
returns c = defences_at_declarers
