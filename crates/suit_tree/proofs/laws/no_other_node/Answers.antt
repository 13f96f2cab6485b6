use Rattle.suit_tree.proofs.OneNodeAtEachPath.{no_other_node}
use Rattle.suit_tree.proofs.laws.no_other_node.Goals as goal

pub returns : goal.returns
returns c = no_other_node
