use Rattle.suit_classes.proofs.OneSideHoldsAClass.{counts_by_blocks}
use Rattle.suit_classes.proofs.laws.counts_by_blocks.Goals as goal

pub returns : goal.returns
returns c = counts_by_blocks
