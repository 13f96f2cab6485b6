use Rattle.std.proofs.Common.{◌≡◌, ◌-◌, ◌≤◌, length, take}
use Rattle.suit_tree.specs.Nodes.{turn_at}
use Rattle.suit_reply.specs.AgainstPlan.{nodes_for}
use Rattle.suit_reply.proofs.LeastChildByChild.{Gathers, gathered_from}
use Rattle.suit_reply.proofs.against_plan.AgainstPlan.+below.Given as goal
use Rattle.suit_game.specs.declared.limits.TheConstants.{MOST_MOVES}

abbrev pub decreases-below : goal.decreases-below
decreases-below l = MOST_MOVES - length l.history.now.items

abbrev pub invariant-loop-child : goal.invariant-loop-child
invariant-loop-child l = record {
  gathers : Gathers (turn_at l.node) l.rule;
  so_far : l.so_far ≡ gathered_from l.rule l.self.rows.now l.index l.fn.history.items l.mass l.node
      (nodes_for (turn_at l.node) l.index (take l.child-index l.child-items));
  many : l.so_far.many ≤ l.child-index;
  kept : l.history.items ≡ l.fn.history.items;
}
