use Rattle.suit_plans.proofs.SomeLayoutAllows.{StillToCome}
use Rattle.suit_plans.proofs.allowed.some_allows.Given as goal

abbrev pub invariant-loop-layout : goal.invariant-loop-layout
invariant-loop-layout l = StillToCome l.question l.history l.layout-iterator
