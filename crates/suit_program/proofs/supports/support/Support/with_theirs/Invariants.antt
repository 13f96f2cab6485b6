use Rattle.std.proofs.Common.{◌≡◌, ◌<◌, ℕ, length, take}
use Rattle.std.specs.Prelude.{◌||◌, slice_get}
use Rattle.suit_classes.specs.declared.class_moves.ClassMove.{ClassMove}
use Rattle.suit_classes.specs.ClassMoves.{ClassHistory}
use Rattle.suit_program.specs.Supports.Additions.{are_theirs}
use Rattle.suit_program.specs.Supports.Marks.{defence_mark, named_on}
use Rattle.suit_program.proofs.supports.support.Support.with_theirs.Given as goal

abbrev pub invariant-loop-entry : goal.invariant-loop-entry
invariant-loop-entry l = record {
  long : length l.marks.items ≡ l.count;
  names : (k : ℕ) (history : ClassHistory) (move : ClassMove) → k < l.count
      → named_on (slice_get l.marks.items k) history move
      ≡ (named_on (defence_mark l.self k) history move || are_theirs (take l.entry-index l.theirs) k history move);
}
