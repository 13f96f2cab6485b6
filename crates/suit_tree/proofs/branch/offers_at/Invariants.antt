use Rattle.std.proofs.Common.{take}
use Rattle.std.specs.List.{AllZip}
use Rattle.suit_classes.specs.ClassPlaces.{class_moves}
use Rattle.suit_tree.specs.Growing.{Tells}
use Rattle.suit_tree.specs.Trees.{counts_at}
use Rattle.suit_tree.proofs.branch.offers_at.Given as goal

abbrev pub invariant-loop-index : goal.invariant-loop-index
invariant-loop-index l = AllZip (λ index told. Tells told (class_moves l.position (counts_at l.layouts index)))
    (take l.index-index l.indices) l.offers.items
