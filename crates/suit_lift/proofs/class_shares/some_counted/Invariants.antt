use Rattle.std.proofs.Common.{◌≡◌, drop}
use Rattle.suit_lift.proofs.NoMoveHasACount.{none_counted}
use Rattle.suit_lift.proofs.class_shares.some_counted.Given as goal

abbrev pub invariant-loop-mv : goal.invariant-loop-mv
invariant-loop-mv l = none_counted l.shares (drop l.mv-index l.moves) ≡ none_counted l.shares l.moves
