use Rattle.std.proofs.Common.{◌≡◌}
use Rattle.std.specs.Prelude.{filter}
use Rattle.std.specs.List.{range_with_len}
use Rattle.suit_classes.specs.declared.classes.Owner.TheVariants.{Defence}
use Rattle.suit_classes.specs.Classes.{class_owner, same_owner}
use Rattle.suit_classes.proofs.classes.Classes.defence.Given as goal

abbrev pub invariant-loop-class : goal.invariant-loop-class
invariant-loop-class l = l.classes.items
    ≡ filter (λ class. same_owner (class_owner l.self class) Defence) (range_with_len 0 l.class)
