use Rattle.std.proofs.Common.{◌≡◌, Some, take}
use Rattle.std.specs.Prelude.{◌||◌}
use Rattle.suit_classes.specs.declared.class_moves.ClassMove.{ClassMove}
use Rattle.suit_classes.specs.ClassMoves.{ClassHistory}
use Rattle.suit_program.specs.Supports.Marks.{named_on}
use Rattle.suit_program.specs.Supports.{has_declarers}
use Rattle.suit_program.proofs.supports.support.Support.with_own.Given as goal

abbrev pub invariant-loop-entry : goal.invariant-loop-entry
invariant-loop-entry l = (history : ClassHistory) (move : ClassMove) → named_on (Some l.mark) history move
    ≡ (named_on (Some l.self.declarers) history move || has_declarers (take l.entry-index l.own) history move)
