use Rattle.std.proofs.Common.{◌≡◌, ◌++◌, drop}
use Rattle.suit_tree.specs.Growing.{kept_of}
use Rattle.suit_tree.proofs.branch.kept.Given as goal

abbrev pub invariant-loop-index : goal.invariant-loop-index
invariant-loop-index l = l.kept.items ++ kept_of (drop l.index l.indices) (drop l.index l.offers) l.mv
    ≡ kept_of l.indices l.offers l.mv
