use Rattle.std.proofs.Common.{◌≡◌, length}
use Rattle.suit_program.specs.Walks.DefenceLists.{AreShared}
use Rattle.suit_program.proofs.walks.defence_walk.DefenceWalk.shares.Given as goal

abbrev pub invariant-loop-index : goal.invariant-loop-index
invariant-loop-index l = record {
  long : length l.shares.items ≡ l.index;
  each : AreShared l.self l.reach l.row l.masses l.index l.shares.items;
}
