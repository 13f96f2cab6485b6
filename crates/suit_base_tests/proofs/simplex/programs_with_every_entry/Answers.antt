use Rattle.suit_base_tests.proofs.TestProgramsAreBounded.{two_columns_bounded, nothing_gained_bounded, tied_bounded}
use Rattle.suit_base_tests.proofs.simplex.programs_with_every_entry.Goals as goal

pub optimum-requires-clause-bounded : goal.optimum-requires-clause-bounded
optimum-requires-clause-bounded g c = rw c.in_ok-small.ensures two_columns_bounded

pub optimum-requires-2-clause-bounded : goal.optimum-requires-2-clause-bounded
optimum-requires-2-clause-bounded g c = rw c.in_ok-small.ensures two_columns_bounded

pub optimum-requires-3-clause-bounded : goal.optimum-requires-3-clause-bounded
optimum-requires-3-clause-bounded g c = rw c.in_ok-idle.ensures nothing_gained_bounded

pub optimum-requires-4-clause-bounded : goal.optimum-requires-4-clause-bounded
optimum-requires-4-clause-bounded g c = rw c.in_ok-even.ensures tied_bounded
