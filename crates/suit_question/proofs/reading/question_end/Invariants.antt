-- What was passed over and the place of the end in the rest make the place of the end.
use Rattle.std.proofs.Common.{◌≡◌, ◌≤◌, ◌+◌, length}
use Rattle.suit_question.specs.Reading.{end_index}
use Rattle.suit_question.proofs.reading.question_end.Given as goal

abbrev pub invariant-loop-cut : goal.invariant-loop-cut
invariant-loop-cut l = record {
  same : end_index l.fn.bytes + length l.rest ≡ length l.fn.bytes + end_index l.rest;
  within : length l.rest ≤ length l.fn.bytes;
}

abbrev pub decreases-loop-cut : goal.decreases-loop-cut
decreases-loop-cut l = length l.rest
