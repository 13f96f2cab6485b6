use Rattle.suit_linear_fast.proofs.Advancing.{AreChangedBelow}
use Rattle.suit_linear_fast.proofs.pivot.change_lines.Given as goal

abbrev pub invariant-loop-index : goal.invariant-loop-index
invariant-loop-index l = AreChangedBelow l.fn.lines l.entries l.row l.leaver l.index l.lines
