use Rattle.suit_tree.proofs.NodesTellPlay.{nodes_tell_play}
use Rattle.suit_tree.proofs.laws.nodes_tell_play.Goals as goal

pub returns : goal.returns
returns c = nodes_tell_play
