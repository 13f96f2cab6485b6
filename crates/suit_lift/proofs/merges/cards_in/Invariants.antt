use Rattle.std.proofs.Common.{◌≡◌, take}
use Rattle.suit_classes.specs.ClassGame.{cards_in}
use Rattle.suit_lift.proofs.merges.cards_in.Given as goal

abbrev pub invariant-loop-rank : goal.invariant-loop-rank
invariant-loop-rank l = l.count ≡ cards_in l.classes (take l.rank-index l.cards) l.class
