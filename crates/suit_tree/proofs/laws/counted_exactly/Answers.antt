use Rattle.suit_tree.proofs.EachHistoryIsCountedOnce.{counted_exactly}
use Rattle.suit_tree.proofs.laws.counted_exactly.Goals as goal

pub returns : goal.returns
returns c = counted_exactly
