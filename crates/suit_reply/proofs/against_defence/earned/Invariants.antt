use Rattle.std.proofs.Common.{◌≡◌, ◌*ℤ◌, map, pos, take}
use Rattle.suit_plans.specs.Properness.{sum_of}
use Rattle.suit_reply.proofs.against_defence.earned.Given as goal

abbrev pub invariant-loop-held : goal.invariant-loop-held
invariant-loop-held l = l.worth ≡ sum_of (map (λ held. pos l.payoff *ℤ held.1) (take l.held-index l.masses))
