use Rattle.std.proofs.Common.{◌≡◌}
use Rattle.suit_cards.specs.declared.seats.Seat.TheVariants.{E}
use Rattle.suit_classes.specs.ClassPlaces.{defence_index, left}
use Rattle.suit_classes.proofs.CountedClassByClass.{Filled}
use Rattle.suit_classes.proofs.class_place.ClassPlace.left_to_east.Given as goal

abbrev pub invariant-loop-class : goal.invariant-loop-class
invariant-loop-class l = record {
  filled : Filled (left l.self l.counts E) l.left l.class;
  index : l.index ≡ defence_index l.self l.class;
}
