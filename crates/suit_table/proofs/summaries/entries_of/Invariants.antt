-- Each question so far has its record.
use Rattle.std.proofs.Common.{◌≡◌, ◌<◌, ℕ, Ok, length, get_or}
use Rattle.suit_game.specs.declared.question.Question.{Question}
use Rattle.suit_table.specs.declared.judging.Entry.{Entry}
use Rattle.suit_table.proofs.summaries.entries_of.Given as goal

abbrev pub invariant-loop-question : goal.invariant-loop-question
invariant-loop-question l = record {
  numbered : l.number ≡ l.question-index;
  long : length l.entries.items ≡ l.question-index;
  read : (index : ℕ) (question : Question) (entry : Entry) → index < l.question-index
      → (get_or l.entries.items index entry).read ≡ Ok (get_or l.questions index question);
}
