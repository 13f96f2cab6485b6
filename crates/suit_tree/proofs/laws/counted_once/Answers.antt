use Rattle.suit_tree.proofs.EachHistoryIsCountedOnce.{counted_once}
use Rattle.suit_tree.proofs.laws.counted_once.Goals as goal

pub returns : goal.returns
returns c = counted_once
