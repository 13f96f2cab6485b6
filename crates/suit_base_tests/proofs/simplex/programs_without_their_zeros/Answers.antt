use Rattle.suit_base_tests.proofs.TestProgramsAreBounded.{scattered_bounded, scattered_formed, wide_bounded}
use Rattle.suit_base_tests.proofs.TestProgramsAreBounded.{wide_formed}
use Rattle.suit_base_tests.proofs.simplex.programs_without_their_zeros.Goals as goal

pub fast-requires : goal.fast-requires
fast-requires g c = rw c.in_ok-small.ensures scattered_formed

pub sparse_optimum-requires-clause-formed : goal.sparse_optimum-requires-clause-formed
sparse_optimum-requires-clause-formed g c = rw c.in_ok-small.ensures scattered_formed

pub sparse_optimum-requires-clause-bounded : goal.sparse_optimum-requires-clause-bounded
sparse_optimum-requires-clause-bounded g c = rw c.in_ok-small.ensures scattered_bounded

pub sparse_optimum-requires-2-clause-formed : goal.sparse_optimum-requires-2-clause-formed
sparse_optimum-requires-2-clause-formed g c = rw c.in_ok-small.ensures scattered_formed

pub sparse_optimum-requires-2-clause-bounded : goal.sparse_optimum-requires-2-clause-bounded
sparse_optimum-requires-2-clause-bounded g c = rw c.in_ok-small.ensures scattered_bounded

pub fast-requires-2 : goal.fast-requires-2
fast-requires-2 g c = rw c.in_ok-wide.ensures wide_formed

pub sparse_optimum-requires-3-clause-formed : goal.sparse_optimum-requires-3-clause-formed
sparse_optimum-requires-3-clause-formed g c = rw c.in_ok-wide.ensures wide_formed

pub sparse_optimum-requires-3-clause-bounded : goal.sparse_optimum-requires-3-clause-bounded
sparse_optimum-requires-3-clause-bounded g c = rw c.in_ok-wide.ensures wide_bounded
