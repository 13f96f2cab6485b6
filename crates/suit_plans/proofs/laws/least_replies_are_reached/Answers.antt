use Rattle.suit_plans.proofs.EachBeginningIsReached.{least_reached}
use Rattle.suit_plans.proofs.laws.least_replies_are_reached.Goals as goal

pub returns : goal.returns
returns c = least_reached
