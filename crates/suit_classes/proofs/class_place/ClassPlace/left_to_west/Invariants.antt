use Rattle.std.proofs.Common.{◌≡◌}
use Rattle.suit_cards.specs.declared.seats.Seat.TheVariants.{W}
use Rattle.suit_classes.specs.ClassPlaces.{defence_index, left}
use Rattle.suit_classes.proofs.CountedClassByClass.{Filled}
use Rattle.suit_classes.proofs.class_place.ClassPlace.left_to_west.Given as goal

abbrev pub invariant-loop-class : goal.invariant-loop-class
invariant-loop-class l = record {
  filled : Filled (left l.self l.counts W) l.left l.class;
  index : l.index ≡ defence_index l.self l.class;
}
