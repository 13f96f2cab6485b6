use Rattle.suit_plans.proofs.ProperPlans.{plans_are_realised}
use Rattle.suit_plans.proofs.laws.plans_are_realised.Goals as goal

pub returns : goal.returns
returns c = plans_are_realised
