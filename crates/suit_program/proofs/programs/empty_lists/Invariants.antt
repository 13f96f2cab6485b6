use Rattle.suit_program.proofs.lemmas.Programs.EntriesByRow.{AreEmpty}
use Rattle.suit_program.proofs.programs.empty_lists.Given as goal

abbrev pub invariant-loop-index : goal.invariant-loop-index
invariant-loop-index l = AreEmpty l.index l.lists.items
