use Rattle.std.proofs.Common.{rules}
use Rattle.suit_lists.proofs.Walks.{one_index}
use Rattle.suit_tree.proofs.growing.indices_of.Goals as goal

pub loop-index-preserved : goal.loop-index-preserved
loop-index-preserved c = one_index c.loop-index.indices.items c.push.new.self.items c.loop-index.index
    c.loop-index.invariant (search rules)
