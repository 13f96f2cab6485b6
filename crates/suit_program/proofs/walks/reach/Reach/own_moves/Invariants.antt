use Rattle.std.proofs.Common.{◌≡◌, ◌≤◌, filter, length, map, take}
use Rattle.suit_tree.specs.Nodes.{children_of, move_of}
use Rattle.suit_program.specs.Walks.Reaches.{own_has}
use Rattle.suit_program.proofs.walks.reach.Reach.own_moves.Given as goal

abbrev pub invariant-loop-child : goal.invariant-loop-child
invariant-loop-child l = record {
  kept : l.moves.items
      ≡ map move_of (filter (λ child. own_has l.self (move_of child)) (take l.child-index (children_of l.self.node)));
  few : length l.moves.items ≤ l.child-index;
}
