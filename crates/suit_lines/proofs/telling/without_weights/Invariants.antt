use Rattle.std.proofs.Common.{◌≡◌, map, take}
use Rattle.suit_lines.proofs.telling.without_weights.Given as goal

abbrev pub invariant-loop-layout : goal.invariant-loop-layout
invariant-loop-layout l = map (λ layout. layout.now) l.list.items
    ≡ map (λ layout. layout.0) (take l.layout-index l.layouts)
