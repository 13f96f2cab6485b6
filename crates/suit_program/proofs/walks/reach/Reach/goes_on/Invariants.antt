use Rattle.std.proofs.Common.{◌≡◌, drop}
use Rattle.std.specs.List.{list_any}
use Rattle.suit_program.specs.Walks.Reaches.{goes_in}
use Rattle.suit_program.proofs.walks.reach.Reach.goes_on.Given as goal

abbrev pub invariant-loop-layout : goal.invariant-loop-layout
invariant-loop-layout l =
    list_any (λ layout. goes_in l.self layout l.child) (drop l.layout-index l.self.layouts.items)
    ≡ list_any (λ layout. goes_in l.self layout l.child) l.self.layouts.items
