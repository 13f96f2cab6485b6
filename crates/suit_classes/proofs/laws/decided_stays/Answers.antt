use Rattle.suit_classes.proofs.DecidedStaysDecided.{decided_stays}
use Rattle.suit_classes.proofs.laws.decided_stays.Goals as goal

pub returns : goal.returns
returns c = decided_stays
