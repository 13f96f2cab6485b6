use Rattle.std.proofs.Common.{◌≡◌, map, take}
use Rattle.suit_classes.specs.ClassPlaces.{class_moves}
use Rattle.suit_lines.proofs.moves.offers_at.Given as goal

abbrev pub invariant-loop-layout : goal.invariant-loop-layout
invariant-loop-layout l = map (λ offer. offer.items) l.offers.items
    ≡ map (λ layout. class_moves l.place layout.now) (take l.layout-index l.layouts)
