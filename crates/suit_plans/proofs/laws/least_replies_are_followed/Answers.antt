use Rattle.suit_plans.proofs.EachBeginningIsReached.{least_followed}
use Rattle.suit_plans.proofs.laws.least_replies_are_followed.Goals as goal

pub returns : goal.returns
returns c = least_followed
