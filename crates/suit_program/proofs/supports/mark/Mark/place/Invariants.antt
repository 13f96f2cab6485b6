use Rattle.std.proofs.Common.{◌≡◌, ℕ, ◌<◌, false, get_or}
use Rattle.suit_classes.specs.ClassMoves.{same_class_move}
use Rattle.suit_program.specs.declared.supports.mark.Mark.{Mark}
use Rattle.suit_program.specs.Supports.Marks.{last_of, marks_below}
use Rattle.suit_program.proofs.supports.mark.Mark.place.Given as goal

abbrev pub invariant-loop-at : goal.invariant-loop-at
invariant-loop-at l = (k : ℕ) (d : Mark) → k < l.at
    → same_class_move (last_of (get_or (marks_below l.self) k d)) l.mv ≡ false
