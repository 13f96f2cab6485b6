use Rattle.suit_classes.specs.ClassPlaces.{held_by}
use Rattle.suit_classes.proofs.CountedClassByClass.{Filled}
use Rattle.suit_classes.proofs.class_counts.dealt_to.Given as goal

abbrev pub invariant-loop-class : goal.invariant-loop-class
invariant-loop-class l = Filled (held_by l.classes l.owner) l.dealt l.class
