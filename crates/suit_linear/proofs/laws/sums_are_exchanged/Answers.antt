use Rattle.suit_linear.proofs.WeakDuality.{sums_exchanged}
use Rattle.suit_linear.proofs.laws.sums_are_exchanged.Goals as goal

pub returns : goal.returns
returns c = sums_exchanged
