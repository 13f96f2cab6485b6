use Rattle.std.proofs.Common.{◌≡◌, ◌≤◌, length}
use Rattle.suit_game.specs.declared.limits.TheConstants.{MOST_MOVES}
use Rattle.suit_lift.specs.Lifts.{is_lowest}
use Rattle.suit_lift.proofs.merges.is_lowest.Given as goal

abbrev pub invariant-loop-moves : goal.invariant-loop-moves
invariant-loop-moves l =
    (length l.moves ≤ MOST_MOVES) × (is_lowest l.classes l.moves l.mv ≡ is_lowest l.classes l.initial.moves l.mv)

abbrev pub decreases-loop-moves : goal.decreases-loop-moves
decreases-loop-moves l = length l.moves
