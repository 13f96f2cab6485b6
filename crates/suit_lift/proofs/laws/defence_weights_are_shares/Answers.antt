use Rattle.suit_lift.proofs.WeightsAreShares.{defence_weights_are_shares}
use Rattle.suit_lift.proofs.laws.defence_weights_are_shares.Goals as goal

pub returns : goal.returns
returns c = defence_weights_are_shares
