use Rattle.std.proofs.Common.{◌≡◌, map, take}
use Rattle.suit_lines.specs.Walks.{having}
use Rattle.suit_lines.proofs.moves.having.Given as goal

abbrev pub invariant-loop-layout : goal.invariant-loop-layout
invariant-loop-layout l = map (λ layout. layout.now) l.kept.items
    ≡ having l.place (map (λ layout. layout.now) (take l.layout-index l.layouts)) l.mv
