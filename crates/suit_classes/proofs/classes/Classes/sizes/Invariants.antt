use Rattle.std.proofs.Common.{◌≡◌, take}
use Rattle.std.specs.Prelude.{map}
use Rattle.suit_classes.specs.Classes.{class_size}
use Rattle.suit_classes.proofs.classes.Classes.sizes.Given as goal

abbrev pub invariant-loop-class : goal.invariant-loop-class
invariant-loop-class l = l.sizes.items ≡ map (class_size l.self) (take l.class-index l.class-items)
