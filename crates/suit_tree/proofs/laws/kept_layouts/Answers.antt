use Rattle.suit_tree.proofs.OneNodeAtEachPath.{kept_layouts}
use Rattle.suit_tree.proofs.laws.kept_layouts.Goals as goal

pub returns : goal.returns
returns c = kept_layouts
