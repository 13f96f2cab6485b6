use Rattle.suit_plans.proofs.PlanWorths.{plans_paid}
use Rattle.suit_plans.proofs.laws.plans_are_paid.Goals as goal

pub returns : goal.returns
returns c = plans_paid
