-- Holds while blanks are left out: what is left, without blanks, is the result.
use Rattle.std.proofs.Common.{◌≡◌, length}
use Rattle.suit_table.specs.Fields.{without_front}
use Rattle.suit_table.proofs.fields.without_first_blanks.Given as goal

abbrev pub invariant-loop-first : goal.invariant-loop-first
invariant-loop-first l = without_front l.fn.text ≡ without_front l.rest

abbrev pub decreases-loop-first : goal.decreases-loop-first
decreases-loop-first l = length l.rest
