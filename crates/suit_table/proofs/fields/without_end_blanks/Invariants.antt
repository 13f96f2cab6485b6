-- Holds while blanks are left out: what is left, without blanks, is the result.
use Rattle.std.proofs.Common.{◌≡◌, length}
use Rattle.std.specs.Prelude.{reverse}
use Rattle.suit_table.specs.Fields.{without_front}
use Rattle.suit_table.proofs.fields.without_end_blanks.Given as goal

abbrev pub invariant-loop-last : goal.invariant-loop-last
invariant-loop-last l = without_front (reverse l.fn.text) ≡ without_front (reverse l.rest)

abbrev pub decreases-loop-last : goal.decreases-loop-last
decreases-loop-last l = length l.rest
