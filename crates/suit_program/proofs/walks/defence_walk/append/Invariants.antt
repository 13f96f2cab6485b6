use Rattle.std.proofs.Common.{◌≡◌, ◌++◌}
use Rattle.suit_program.proofs.walks.defence_walk.append.Given as goal

abbrev pub invariant-loop-row : goal.invariant-loop-row
invariant-loop-row l = l.rows.items ≡ l.fn.rows.items ++ l.yielded
