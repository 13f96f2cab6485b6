use Rattle.suit_lift.proofs.DefenceGains.{defences_hold}
use Rattle.suit_lift.proofs.laws.defences_hold.Goals as goal

pub returns : goal.returns
returns c = defences_hold
