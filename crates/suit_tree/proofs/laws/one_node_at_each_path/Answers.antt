use Rattle.suit_tree.proofs.OneNodeAtEachPath.{one_node_at_each_path}
use Rattle.suit_tree.proofs.laws.one_node_at_each_path.Goals as goal

pub returns : goal.returns
returns c = one_node_at_each_path
