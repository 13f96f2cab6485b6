use Rattle.suit_layouts.proofs.CountsOfALayout.{counts_add_up}
use Rattle.suit_layouts.proofs.laws.counts_add_up.Goals as goal

pub returns : goal.returns
returns c = counts_add_up
