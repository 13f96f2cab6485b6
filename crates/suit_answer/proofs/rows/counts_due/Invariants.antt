-- The counts so far, and those to come.
use Rattle.std.proofs.Common.{◌≡◌, length}
use Rattle.suit_text.specs.Strict.{words_after}
use Rattle.suit_answer.specs.Rows.{counts_due}
use Rattle.suit_answer.proofs.Fronts.{with_front}
use Rattle.suit_answer.proofs.rows.counts_due.Given as goal

abbrev pub invariant-loop-word : goal.invariant-loop-word
invariant-loop-word l =
    with_front l.counts.items (counts_due l.line (words_after l.rest)) ≡ counts_due l.line (words_after l.fn.text)

abbrev pub decreases-loop-word : goal.decreases-loop-word
decreases-loop-word l = length l.rest
