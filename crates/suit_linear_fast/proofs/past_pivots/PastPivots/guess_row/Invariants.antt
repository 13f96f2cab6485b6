use Rattle.std.proofs.Common.{length, ◌-◌}
use Rattle.suit_linear_fast.proofs.RowReplays.{IsRowLeft}
use Rattle.suit_linear_fast.proofs.past_pivots.PastPivots.guess_row.Given as goal

abbrev pub invariant-loop-made : goal.invariant-loop-made
invariant-loop-made l =
    IsRowLeft l.self l.row (length l.self.changes.items - l.made) l.count l.factor l.weights
