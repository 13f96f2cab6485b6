use Rattle.std.proofs.Common.{◌≡◌, take}
use Rattle.std.specs.Prelude.{map}
use Rattle.suit_classes.specs.ClassMoves.{merge}
use Rattle.suit_lift.proofs.merges.merged.Given as goal

abbrev pub invariant-loop-mv : goal.invariant-loop-mv
invariant-loop-mv l = l.merges.items ≡ map (merge l.classes) (take l.mv-index l.moves)
