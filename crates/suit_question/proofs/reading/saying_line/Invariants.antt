-- The first line left that says something is that of the whole text.
use Rattle.std.proofs.Common.{◌≡◌, ◌≤◌, ◌+◌, length}
use Rattle.suit_text.specs.Loose.{lines_of}
use Rattle.suit_text.specs.declared.limits.TheConstants.{MOST_TEXT}
use Rattle.suit_question.specs.Reading.{first_saying}
use Rattle.suit_question.proofs.reading.saying_line.Given as goal

abbrev pub invariant-loop-cut : goal.invariant-loop-cut
invariant-loop-cut l = record {
  same : first_saying l.number (lines_of l.rest) ≡ first_saying l.first (lines_of l.fn.text);
  short : l.number + length l.rest ≤ MOST_TEXT + 2;
}

abbrev pub decreases-loop-cut : goal.decreases-loop-cut
decreases-loop-cut l = length l.rest
