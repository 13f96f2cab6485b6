use Rattle.suit_tree.proofs.NodesTellPlay.{children_rise}
use Rattle.suit_tree.proofs.laws.children_rise.Goals as goal

pub returns : goal.returns
returns c = children_rise
