use Rattle.std.proofs.Common.{◌≡◌, ◌-ℤ◌, drop}
use Rattle.suit_program.specs.Readings.{sum_counts}
use Rattle.suit_program.proofs.readings.sharing.less_the_others.Given as goal

abbrev pub invariant-loop-index : goal.invariant-loop-index
invariant-loop-index l =
    l.rest -ℤ sum_counts (drop l.index l.shares) ≡ l.mass -ℤ sum_counts (drop 1 l.shares)
