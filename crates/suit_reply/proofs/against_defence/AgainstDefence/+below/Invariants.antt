use Rattle.std.proofs.Common.{◌≡◌, ◌-◌, ◌≤◌, length, map, take}
use Rattle.suit_tree.specs.Nodes.{children_of}
use Rattle.suit_reply.specs.Turns.{gathered}
use Rattle.suit_reply.proofs.MostChildByChild.{told_at}
use Rattle.suit_reply.proofs.against_defence.AgainstDefence.+below.Given as goal
use Rattle.suit_game.specs.declared.limits.TheConstants.{MOST_MOVES}

abbrev pub decreases-below : goal.decreases-below
decreases-below l = MOST_MOVES - length l.history.now.items

abbrev pub invariant-loop-child : goal.invariant-loop-child
invariant-loop-child l = record {
  so_far : l.so_far ≡ gathered l.rule
      (map (told_at l.self.layouts.now l.self.rows.now l.fn.history.items l.masses l.node)
      (take l.child-index (children_of l.node)));
  many : l.so_far.many ≤ l.child-index;
  kept : l.history.items ≡ l.fn.history.items;
}
