use Rattle.suit_plans.proofs.AllowedSoFar.{IsUndecidedWalk}
use Rattle.suit_plans.proofs.allowed.undecided_place.Given as goal

abbrev pub invariant-loop-index : goal.invariant-loop-index
invariant-loop-index l = IsUndecidedWalk l.question l.history l.index l.place
