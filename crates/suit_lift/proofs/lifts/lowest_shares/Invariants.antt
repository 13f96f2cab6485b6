use Rattle.std.proofs.Common.{◌≡◌, take}
use Rattle.std.specs.Prelude.{map, option_map}
use Rattle.suit_lift.specs.Lifts.{lowest_share}
use Rattle.suit_lift.proofs.lifts.lowest_shares.Given as goal

abbrev pub invariant-loop-mv : goal.invariant-loop-mv
invariant-loop-mv l =
    l.shares.items ≡ map (lowest_share l.classes (option_map (λ shares. shares.now) l.row) l.moves)
    (take l.mv-index l.moves)
