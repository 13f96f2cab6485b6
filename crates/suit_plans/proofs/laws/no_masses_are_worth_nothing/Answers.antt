use Rattle.suit_plans.proofs.DefenceWorths.{no_masses_no_worth}
use Rattle.suit_plans.proofs.laws.no_masses_are_worth_nothing.Goals as goal

pub returns : goal.returns
returns c = no_masses_no_worth
