use Rattle.std.proofs.Common.{◌≡◌, ◌≤ℤ◌, ◌++◌, drop, pos}
use Rattle.suit_program.specs.Readings.{filled}
use Rattle.suit_program.specs.Readings.Sharing.{counted}
use Rattle.suit_program.proofs.readings.sharing.fill.Given as goal

abbrev pub invariant-loop-index : goal.invariant-loop-index
invariant-loop-index l = record {
  some : pos 0 ≤ℤ l.left;
  so_far : l.shares.items ++ filled l.left (counted (drop l.index l.moves) (drop l.index l.prices))
      ≡ filled l.mass (counted l.moves l.prices);
}
