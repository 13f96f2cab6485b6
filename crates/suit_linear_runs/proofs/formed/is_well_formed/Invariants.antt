use Rattle.std.specs.Prelude.{length}
use Rattle.suit_linear_runs.proofs.WellFormedRowByRow.{AreFormed}
use Rattle.suit_linear_runs.proofs.formed.is_well_formed.Given as goal

abbrev pub invariant-loop-index : goal.invariant-loop-index
invariant-loop-index l = AreFormed (length l.program.costs) l.index l.program.rows
