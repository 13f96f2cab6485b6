use Rattle.suit_lift.proofs.FullLists.{defences_are_lists}
use Rattle.suit_lift.proofs.laws.defences_are_lists.Goals as goal

pub returns : goal.returns
returns c = defences_are_lists
