use Rattle.suit_base_tests.proofs.TestProgramsAreBounded.{one_wide_row_bounded, two_wide_rows_bounded}
use Rattle.suit_base_tests.proofs.simplex.programs_of_wide_numbers.Goals as goal

pub optimum-requires-clause-bounded : goal.optimum-requires-clause-bounded
optimum-requires-clause-bounded g c = rw c.in_ok-fits.ensures one_wide_row_bounded

pub optimum-requires-2-clause-bounded : goal.optimum-requires-2-clause-bounded
optimum-requires-2-clause-bounded g c = rw c.in_ok-wide.ensures two_wide_rows_bounded

pub optimum-requires-3-clause-bounded : goal.optimum-requires-3-clause-bounded
optimum-requires-3-clause-bounded g c = rw c.in_ok-wide.ensures two_wide_rows_bounded
