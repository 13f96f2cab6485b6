use Rattle.std.proofs.Common.{◌≡◌, take}
use Rattle.std.specs.Prelude.{map}
use Rattle.suit_classes.specs.ClassGame.{cards_in}
use Rattle.suit_lift.proofs.merges.counts_of.Given as goal

abbrev pub invariant-loop-class : goal.invariant-loop-class
invariant-loop-class l = l.counts.items ≡ map (cards_in l.classes l.cards.items) (take l.class-index l.class-items)
