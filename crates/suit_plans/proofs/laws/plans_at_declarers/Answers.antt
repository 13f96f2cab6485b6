use Rattle.suit_plans.proofs.PlanWorths.{plans_at_declarers}
use Rattle.suit_plans.proofs.laws.plans_at_declarers.Goals as goal

pub returns : goal.returns
returns c = plans_at_declarers
