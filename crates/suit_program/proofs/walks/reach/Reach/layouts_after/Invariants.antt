use Rattle.std.proofs.Common.{◌≡◌, ◌≤◌, filter, length, map, take}
use Rattle.suit_program.specs.Walks.Reaches.{goes_in, layout_after, layout_seen}
use Rattle.suit_tree.specs.Nodes.{move_of}
use Rattle.suit_program.proofs.walks.reach.Reach.layouts_after.Given as goal

abbrev pub invariant-loop-layout : goal.invariant-loop-layout
invariant-loop-layout l = record {
  kept : map layout_seen l.after.items
      ≡ map (layout_after (move_of l.child))
      (filter (λ layout. goes_in l.self layout l.child) (take l.layout-index l.self.layouts.items));
  few : length l.after.items ≤ l.layout-index;
}
