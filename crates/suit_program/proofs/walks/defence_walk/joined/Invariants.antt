use Rattle.std.proofs.Common.{◌≡◌}
use Rattle.std.specs.List.{flat_map}
use Rattle.suit_program.specs.Walks.DefenceLists.{rows_of}
use Rattle.suit_program.proofs.walks.defence_walk.joined.Given as goal

abbrev pub invariant-loop-list : goal.invariant-loop-list
invariant-loop-list l = l.all.items ≡ flat_map rows_of l.yielded
