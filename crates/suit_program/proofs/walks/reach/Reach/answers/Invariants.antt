use Rattle.std.proofs.Common.{◌≡◌, ◌≤◌, filter, length, map, take}
use Rattle.suit_tree.specs.Nodes.{children_of, move_of}
use Rattle.suit_program.specs.Walks.Reaches.{their_has}
use Rattle.suit_program.proofs.walks.reach.Reach.answers.Given as goal

abbrev pub invariant-loop-child : goal.invariant-loop-child
invariant-loop-child l = record {
  kept : l.moves.items
      ≡ map move_of (filter (their_has l.self l.layout) (take l.child-index (children_of l.self.node)));
  few : length l.moves.items ≤ l.child-index;
}
