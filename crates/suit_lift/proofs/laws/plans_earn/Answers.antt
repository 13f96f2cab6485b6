use Rattle.suit_lift.proofs.PlanGains.{plans_earn}
use Rattle.suit_lift.proofs.laws.plans_earn.Goals as goal

pub returns : goal.returns
returns c = plans_earn
