use Rattle.std.proofs.Common.{◌≡◌, drop}
use Rattle.suit_program.specs.Supports.Additions.{children_by}
use Rattle.suit_program.proofs.supports.node_moves.children_by.Given as goal

abbrev pub invariant-loop-node : goal.invariant-loop-node
invariant-loop-node l = children_by (drop l.node-index l.nodes) l.mv ≡ children_by l.nodes l.mv
