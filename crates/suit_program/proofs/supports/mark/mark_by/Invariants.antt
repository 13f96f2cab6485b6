use Rattle.std.proofs.Common.{◌≡◌, drop}
use Rattle.suit_program.specs.Supports.Marks.{mark_by}
use Rattle.suit_program.proofs.supports.mark.mark_by.Given as goal

abbrev pub invariant-loop-mark : goal.invariant-loop-mark
invariant-loop-mark l = mark_by l.mv (drop l.mark-index l.marks) ≡ mark_by l.mv l.marks
