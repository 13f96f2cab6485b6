use Rattle.std.proofs.Common.{◌≡◌, length, take}
use Rattle.std.specs.Prelude.{filter}
use Rattle.suit_classes.specs.ClassMoves.{merge, same_class_move}
use Rattle.suit_lift.proofs.merges.how_often.Given as goal

abbrev pub invariant-loop-mv : goal.invariant-loop-mv
invariant-loop-mv l =
    l.count ≡ length (filter (λ other. same_class_move (merge l.classes other) l.class) (take l.mv-index l.moves))
