-- The words left decide.
use Rattle.std.proofs.Common.{◌≡◌, length}
use Rattle.suit_text.specs.Strict.{words_after}
use Rattle.suit_answer.specs.Forms.{are_pairs}
use Rattle.suit_answer.proofs.forms.are_pairs.Given as goal

abbrev pub invariant-loop-mv : goal.invariant-loop-mv
invariant-loop-mv l = are_pairs (words_after l.rest) ≡ are_pairs (words_after l.fn.text)

abbrev pub decreases-loop-mv : goal.decreases-loop-mv
decreases-loop-mv l = length l.rest
