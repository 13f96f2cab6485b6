use Rattle.suit_plans.proofs.EachBeginningIsReached.{most_reached}
use Rattle.suit_plans.proofs.laws.most_replies_are_reached.Goals as goal

pub returns : goal.returns
returns c = most_reached
