use Rattle.suit_lift.proofs.FullLists.{plans_are_lists}
use Rattle.suit_lift.proofs.laws.plans_are_lists.Goals as goal

pub returns : goal.returns
returns c = plans_are_lists
