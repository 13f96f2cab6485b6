use Rattle.suit_plans.proofs.PlanWorths.{no_mass_no_worth}
use Rattle.suit_plans.proofs.laws.no_mass_is_worth_nothing.Goals as goal

pub returns : goal.returns
returns c = no_mass_no_worth
