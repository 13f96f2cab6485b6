use Rattle.suit_lift.proofs.LiftPaysItsWorth.{plans_pay}
use Rattle.suit_lift.proofs.laws.plans_pay.Goals as goal

pub returns : goal.returns
returns c = plans_pay
