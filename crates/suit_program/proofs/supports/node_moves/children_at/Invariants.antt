use Rattle.std.proofs.Common.{◌≡◌, drop, fold}
use Rattle.suit_tree.specs.Nodes.{children_of}
use Rattle.suit_program.specs.Supports.Additions.{children_by}
use Rattle.suit_program.proofs.supports.node_moves.children_at.Given as goal

abbrev pub invariant-loop-mv : goal.invariant-loop-mv
invariant-loop-mv l =
    fold children_by l.children (drop l.mv-index l.history) ≡ fold children_by (children_of l.node) l.history
