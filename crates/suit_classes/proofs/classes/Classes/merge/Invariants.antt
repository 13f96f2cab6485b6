use Rattle.std.proofs.Common.{◌≡◌, take}
use Rattle.std.specs.Prelude.{map}
use Rattle.suit_classes.specs.ClassMoves.{merge}
use Rattle.suit_classes.proofs.classes.Classes.merge.Given as goal

abbrev pub invariant-loop-mv : goal.invariant-loop-mv
invariant-loop-mv l = l.moves.items ≡ map (merge l.self) (take l.mv-index l.history)
