use Rattle.std.proofs.Common.{refl}
use Rattle.suit_classes.proofs.CountedClassByClass.{apart_dealt, none_played_is}
use Rattle.suit_classes.proofs.class_place.ClassPlace.start.Goals as goal

pub invariant_of-result : goal.invariant_of-result
invariant_of-result c = rw (c.dealt_to.ensures, c.dealt_to-2.ensures) (apart_dealt c.args.classes.now)

pub returns : goal.returns
returns c =
    rw (
      c.dealt_to.ensures,
      c.dealt_to-2.ensures,
      c.dealt_to-3.ensures,
      c.len.ensures.value,
      c.len-2.ensures.value,
      c.requires,
      ← none_played_is,
    ) refl
