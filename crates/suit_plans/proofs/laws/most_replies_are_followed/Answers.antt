use Rattle.suit_plans.proofs.EachBeginningIsReached.{most_followed}
use Rattle.suit_plans.proofs.laws.most_replies_are_followed.Goals as goal

pub returns : goal.returns
returns c = most_followed
