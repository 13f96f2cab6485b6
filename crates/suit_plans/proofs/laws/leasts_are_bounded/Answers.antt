use Rattle.suit_plans.proofs.RepliesAreBounded.{leasts_bounded}
use Rattle.suit_plans.proofs.laws.leasts_are_bounded.Goals as goal

pub returns : goal.returns
returns c = leasts_bounded
