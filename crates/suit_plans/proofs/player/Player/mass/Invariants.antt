use Rattle.std.proofs.Common.{◌≡◌, drop, take}
use Rattle.suit_classes.specs.ClassPlaces.{class_after}
use Rattle.suit_plans.specs.Masses.{mass_from, mass_of}
use Rattle.suit_plans.specs.Players.{side_of}
use Rattle.suit_plans.proofs.player.Player.mass.Given as goal

pub record SoFar (place-is mass-is : Type 0) : Type 0 where
  pub place : place-is
  pub mass : mass-is

abbrev pub invariant-loop-index : goal.invariant-loop-index
invariant-loop-index l =
    SoFar (l.place ≡ class_after l.question (take l.index l.history))
    (mass_from l.question (side_of l.self) (take l.index l.history) l.mass (drop l.index l.history)
    ≡ mass_of l.question (side_of l.self) l.history)
