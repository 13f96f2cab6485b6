-- The shares so far, and those to come.
use Rattle.std.proofs.Common.{◌≡◌, length}
use Rattle.suit_text.specs.Strict.{words_after}
use Rattle.suit_answer.specs.Rows.{shares_due}
use Rattle.suit_answer.proofs.Fronts.{in_front}
use Rattle.suit_answer.proofs.rows.shares_due.Given as goal

abbrev pub invariant-loop-word : goal.invariant-loop-word
invariant-loop-word l =
    in_front l.shares.items (shares_due l.fn.letters l.line (words_after l.rest))
    ≡ shares_due l.fn.letters l.line (words_after l.fn.text)

abbrev pub decreases-loop-word : goal.decreases-loop-word
decreases-loop-word l = length l.rest
