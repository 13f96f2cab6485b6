use Rattle.std.proofs.Common.{take}
use Rattle.suit_linear_fast.specs.Replays.{AreTaken, times_in}
use Rattle.suit_linear_fast.proofs.past_pivots.take_changes.Given as goal

abbrev pub invariant-loop-change : goal.invariant-loop-change
invariant-loop-change l = AreTaken l.fn.numbers l.entry (times_in (take l.change-index l.changes)) l.numbers
