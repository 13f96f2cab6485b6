use Rattle.suit_plans.specs.Starts.{IsStart}
use Rattle.suit_plans.proofs.AllowedSoFar.{IsAllowedWalk}
use Rattle.suit_plans.proofs.allowed.allows_from.Given as goal

abbrev pub invariant-loop-index : goal.invariant-loop-index
invariant-loop-index l = (start : IsStart l.fn.start l.fn.counts)
    → IsAllowedWalk start.question l.counts l.history l.index l.place
