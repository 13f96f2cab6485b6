use Rattle.std.proofs.Common.{◌≡◌, drop, filter}
use Rattle.suit_tree.specs.Nodes.{holds_index}
use Rattle.suit_program.proofs.supports.node_moves.is_first_for.Given as goal

abbrev pub invariant-loop-node : goal.invariant-loop-node
invariant-loop-node l =
    filter (holds_index l.index) (drop l.node-index l.nodes) ≡ filter (holds_index l.index) l.nodes
