use Rattle.suit_plans.proofs.RepliesAreBounded.{mosts_bounded}
use Rattle.suit_plans.proofs.laws.mosts_are_bounded.Goals as goal

pub returns : goal.returns
returns c = mosts_bounded
