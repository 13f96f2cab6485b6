use Rattle.std.proofs.Common.{◌-◌, min, length}
use Rattle.suit_linear_fast.specs.Replays.{Replays}
use Rattle.suit_linear_fast.proofs.past_pivots.PastPivots.guess_column.Given as goal

abbrev pub invariant-loop-pivot : goal.invariant-loop-pivot
invariant-loop-pivot l =
    Replays l.self l.begin (min l.pivot (length l.self.leavers.items) - l.begin) l.initial.entries l.entries
