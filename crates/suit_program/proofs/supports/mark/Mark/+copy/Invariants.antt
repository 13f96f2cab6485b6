use Rattle.std.proofs.Common.{take}
use Rattle.std.specs.List.{AllZip}
use Rattle.suit_program.specs.Supports.Marks.{AreAlike, marks_below}
use Rattle.suit_program.proofs.supports.mark.Mark.+copy.Given as goal

abbrev pub invariant-loop-mark : goal.invariant-loop-mark
invariant-loop-mark l = AllZip AreAlike l.next.items (take l.mark-index (marks_below l.self))
