use Rattle.suit_lift.proofs.WeightsAreShares.{plan_weights_are_shares}
use Rattle.suit_lift.proofs.laws.plan_weights_are_shares.Goals as goal

pub returns : goal.returns
returns c = plan_weights_are_shares
