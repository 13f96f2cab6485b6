use Rattle.suit_program.proofs.lemmas.Programs.EntriesByRow.{AreCollected}
use Rattle.suit_program.proofs.programs.entries_by_row.Given as goal

abbrev pub invariant-loop-index : goal.invariant-loop-index
invariant-loop-index l = AreCollected l.rows l.index l.postings l.lists.items
