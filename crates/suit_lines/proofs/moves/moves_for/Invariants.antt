use Rattle.std.proofs.Common.{◌≡◌, map, take}
use Rattle.std.specs.Prelude.{filter}
use Rattle.suit_lines.specs.Walks.{some_have}
use Rattle.suit_lines.proofs.moves.moves_for.Given as goal

abbrev pub invariant-loop-mv : goal.invariant-loop-mv
invariant-loop-mv l = l.moves.items
    ≡ filter (some_have l.place (map (λ layout. layout.now) l.layouts)) (take l.mv-index l.mv-items)
