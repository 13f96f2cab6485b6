-- The rows so far, and those to come.
use Rattle.std.proofs.Common.{◌≡◌, ◌+◌, ◌-◌, ◌≤◌, length}
use Rattle.std.specs.Prelude.{vec_len}
use Rattle.suit_text.specs.Strict.{pieces_of}
use Rattle.suit_answer.specs.Reading.{rows_due}
use Rattle.suit_answer.specs.Rows.{defence_row_due}
use Rattle.suit_answer.proofs.Fronts.{with_front}
use Rattle.suit_answer.proofs.parts.defence_rows_due.Given as goal

abbrev pub invariant-loop-index : goal.invariant-loop-index
invariant-loop-index l = record {
  same : with_front l.rows.items
      (rows_due (defence_row_due l.fn.letters l.classes) (l.line + l.index) (l.count - l.index) (pieces_of l.rest))
      ≡ rows_due (defence_row_due l.fn.letters l.classes) l.line l.count (pieces_of l.fn.text);
  shorter : l.index + length l.rest ≤ length l.fn.text;
  kept : vec_len l.rows ≡ l.index;
}
