use Rattle.std.proofs.Common.{◌≡◌, ◌≤◌, length, map}
use Rattle.std.specs.List.{range_with_len}
use Rattle.suit_program.specs.Walks.Reaches.{layout_seen}
use Rattle.suit_program.proofs.lemmas.Walks.ReachAtTheStart.{layout_named}
use Rattle.suit_program.proofs.walks.reach.Reach.start.Given as goal

abbrev pub invariant-loop-index : goal.invariant-loop-index
invariant-loop-index l = record {
  kept : map layout_seen l.layouts.items ≡ map (layout_named l.support) (range_with_len 0 l.index);
  few : length l.layouts.items ≤ l.index;
}
