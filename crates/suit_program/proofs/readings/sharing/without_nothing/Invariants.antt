use Rattle.std.proofs.Common.{◌≡◌, take}
use Rattle.suit_program.specs.Readings.Sharing.{without_nothing}
use Rattle.suit_program.proofs.readings.sharing.without_nothing.Given as goal

abbrev pub invariant-loop-count : goal.invariant-loop-count
invariant-loop-count l = l.kept.items ≡ without_nothing (take l.count-index l.count-items)
