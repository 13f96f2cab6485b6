use Rattle.suit_program.proofs.lemmas.Programs.SumOfAColumn.{IsSummed}
use Rattle.suit_program.proofs.programs.sum_of.Given as goal

abbrev pub invariant-loop-index : goal.invariant-loop-index
invariant-loop-index l = IsSummed l.index l.entries l.column l.sum
