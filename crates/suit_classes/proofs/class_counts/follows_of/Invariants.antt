use Rattle.std.proofs.Common.{◌≡◌}
use Rattle.std.specs.Prelude.{map, filter, nat_lt, slice_index}
use Rattle.std.specs.List.{range_with_len}
use Rattle.suit_classes.specs.declared.class_moves.ClassMove.TheVariants.{Follow}
use Rattle.suit_classes.proofs.class_counts.follows_of.Given as goal

abbrev pub invariant-loop-class : goal.invariant-loop-class
invariant-loop-class l = l.follows.items
    ≡ map Follow (filter (λ class. nat_lt 0 (slice_index l.left class)) (range_with_len 0 l.class))
