use Rattle.std.proofs.Common.{◌≡◌, ◌<◌, ℕ, length}
use Rattle.std.specs.Prelude.{slice_get}
use Rattle.suit_classes.specs.declared.class_moves.ClassMove.{ClassMove}
use Rattle.suit_classes.specs.ClassMoves.{ClassHistory}
use Rattle.suit_program.specs.Supports.Marks.{defence_mark, named_on}
use Rattle.suit_program.proofs.supports.support.Support.copies.Given as goal

abbrev pub invariant-loop-index : goal.invariant-loop-index
invariant-loop-index l = record {
  long : length l.marks.items ≡ l.index;
  names : (k : ℕ) (history : ClassHistory) (move : ClassMove) → k < l.index
      → named_on (slice_get l.marks.items k) history move ≡ named_on (defence_mark l.self k) history move;
}
