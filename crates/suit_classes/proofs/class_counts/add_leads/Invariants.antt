use Rattle.std.proofs.Common.{◌≡◌, ◌++◌}
use Rattle.std.specs.Prelude.{map, filter, nat_lt, slice_index}
use Rattle.std.specs.List.{range_with_len}
use Rattle.suit_classes.specs.declared.class_moves.ClassMove.TheVariants.{Lead}
use Rattle.suit_classes.proofs.class_counts.add_leads.Given as goal

abbrev pub invariant-loop-class : goal.invariant-loop-class
invariant-loop-class l = l.leads.items ≡ l.initial.leads.items
    ++ map (Lead l.seat) (filter (λ class. nat_lt 0 (slice_index l.left class)) (range_with_len 0 l.class))
