use Rattle.std.proofs.Common.{◌≡◌, length}
use Rattle.suit_program.specs.Readings.Sharing.{AreThrough}
use Rattle.suit_program.proofs.readings.sharing.all_through.Given as goal

abbrev pub invariant-loop-index : goal.invariant-loop-index
invariant-loop-index l = record {
  long : length l.passed.items ≡ l.index;
  each : AreThrough l.shares l.masses l.mv l.index l.passed.items;
}
