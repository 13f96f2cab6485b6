use Rattle.suit_tree.proofs.ToldIsAllowed.{listed_tells}
use Rattle.suit_tree.proofs.laws.allows_is_allowed.Goals as goal

pub returns : goal.returns
returns c = listed_tells
