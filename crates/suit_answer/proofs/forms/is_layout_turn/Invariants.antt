-- The words left decide.
use Rattle.std.proofs.Common.{◌≡◌, length}
use Rattle.suit_text.specs.Strict.{words_after}
use Rattle.suit_answer.specs.Forms.{is_layout_turn}
use Rattle.suit_answer.proofs.forms.is_layout_turn.Given as goal

abbrev pub invariant-loop-word : goal.invariant-loop-word
invariant-loop-word l = is_layout_turn (words_after l.rest) ≡ is_layout_turn (words_after l.fn.text)

abbrev pub decreases-loop-word : goal.decreases-loop-word
decreases-loop-word l = length l.rest
