use Rattle.std.proofs.Common.{◌≡◌, take}
use Rattle.std.specs.Prelude.{map}
use Rattle.suit_tree.specs.Growing.{branch_seen, keeping}
use Rattle.suit_tree.proofs.Branches.{made_from}
use Rattle.suit_tree.proofs.branch.their_branches.Given as goal

abbrev pub invariant-loop-mv : goal.invariant-loop-mv
invariant-loop-mv l =
    map branch_seen l.branches.items
    ≡ map (λ move. (move, keeping l.layouts l.position l.indices move))
    (made_from l.layouts l.position l.indices (take l.mv-index l.mv-items))
