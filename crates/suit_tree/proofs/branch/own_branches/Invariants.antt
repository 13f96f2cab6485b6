use Rattle.std.proofs.Common.{◌≡◌, take}
use Rattle.std.specs.Prelude.{map}
use Rattle.suit_tree.specs.Growing.{branch_seen}
use Rattle.suit_tree.proofs.branch.own_branches.Given as goal

abbrev pub invariant-loop-mv : goal.invariant-loop-mv
invariant-loop-mv l = map branch_seen l.branches.items ≡ map (λ move. (move, l.indices)) (take l.mv-index l.mv-items)
