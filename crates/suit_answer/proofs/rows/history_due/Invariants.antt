-- The moves so far, and those to come.
use Rattle.std.proofs.Common.{◌≡◌, length}
use Rattle.suit_text.specs.Strict.{words_after}
use Rattle.suit_answer.specs.Rows.{history_due}
use Rattle.suit_answer.proofs.Fronts.{with_front}
use Rattle.suit_answer.proofs.rows.history_due.Given as goal

abbrev pub invariant-loop-word : goal.invariant-loop-word
invariant-loop-word l =
    with_front l.moves.items (history_due l.fn.letters l.line (words_after l.rest))
    ≡ history_due l.fn.letters l.line (words_after l.fn.text)

abbrev pub decreases-loop-word : goal.decreases-loop-word
decreases-loop-word l = length l.rest
