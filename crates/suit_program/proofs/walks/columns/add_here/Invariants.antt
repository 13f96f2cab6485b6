use Rattle.std.proofs.Common.{◌≡◌, ◌++◌, map, take}
use Rattle.suit_program.specs.Programs.{columns_at}
use Rattle.suit_program.specs.Walks.Reaches.{Reached}
use Rattle.suit_program.specs.Readings.{is_passed}
use Rattle.suit_program.proofs.walks.columns.add_here.Given as goal

abbrev pub invariant-loop-column : goal.invariant-loop-column
invariant-loop-column l =
    Reached l.reach (λ question support history. l.passed.items
    ≡ l.fn.passed.items ++ take l._column (map is_passed (columns_at question support history)))
