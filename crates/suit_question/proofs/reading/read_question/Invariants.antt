-- The lines left, after the columns so far, ask what the whole text asks.
use Rattle.std.proofs.Common.{◌≡◌, ◌≤◌, ◌+◌, length}
use Rattle.suit_question.specs.Columns.{AreInRange}
use Rattle.suit_text.specs.Loose.{lines_of}
use Rattle.suit_text.specs.declared.limits.TheConstants.{MOST_TEXT}
use Rattle.suit_question.specs.Reading.{asked_by, question_read}
use Rattle.suit_question.proofs.reading.read_question.Given as goal

abbrev pub invariant-loop-cut : goal.invariant-loop-cut
invariant-loop-cut l = record {
  same : asked_by l.columns l.line (lines_of l.rest) ≡ question_read l.fn.bytes;
  short : l.line + length l.rest ≤ MOST_TEXT + 1;
  range : AreInRange l.columns;
}

abbrev pub decreases-loop-cut : goal.decreases-loop-cut
decreases-loop-cut l = length l.rest
