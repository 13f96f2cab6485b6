use Rattle.suit_classes.proofs.CountsAllowAsTold.{counts_alike}
use Rattle.suit_classes.proofs.laws.counts_alike.Goals as goal

pub returns : goal.returns
returns c = counts_alike
