use Rattle.std.proofs.Common.{◌+◌, ◌-◌, ◌≤◌, length, take}
use Rattle.suit_tree.specs.Growing.{moves_within}
use Rattle.suit_tree.proofs.NodeGrowsChildByChild.{AreGrown}
use Rattle.suit_tree.proofs.growing.Growth.+node.Given as goal

abbrev pub decreases-node : goal.decreases-node
decreases-node l = l.more

abbrev pub invariant-loop-branch : goal.invariant-loop-branch
invariant-loop-branch l = record {
  grown : AreGrown (l.more - 1) l.self.layouts.now l.position l.indices
      (take l.branch-index (moves_within l.more l.self.layouts.now l.position l.indices)) l.children.items (l.fn.pairs
      + length l.indices) l.pairs;
  within : l.pairs ≤ l.self.budget;
}
