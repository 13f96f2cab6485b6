use Rattle.suit_classes.proofs.DecidedStaysDecided.{class_histories_are_short}
use Rattle.suit_classes.proofs.laws.class_histories_are_short.Goals as goal

pub returns : goal.returns
returns c = class_histories_are_short
