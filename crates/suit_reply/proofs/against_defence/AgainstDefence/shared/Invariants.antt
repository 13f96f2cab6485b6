use Rattle.std.proofs.Common.{◌≡◌, ◌++◌, drop, filter, map}
use Rattle.suit_tree.specs.Nodes.{children_of, holds_index, move_of}
use Rattle.suit_reply.specs.AgainstDefence.{is_live, layout_share}
use Rattle.suit_reply.proofs.against_defence.AgainstDefence.shared.Given as goal

abbrev pub invariant-loop-held : goal.invariant-loop-held
invariant-loop-held l =
    l.passed.items ++ filter is_live
    (map (layout_share l.self.layouts.now l.self.rows.now (children_of l.node) l.history (move_of l.child))
    (filter (λ held. holds_index held.0 l.child) (drop l.held-index l.masses)))
    ≡ filter is_live (map (layout_share l.self.layouts.now l.self.rows.now (children_of l.node) l.history
    (move_of l.child)) (filter (λ held. holds_index held.0 l.child) l.masses))
