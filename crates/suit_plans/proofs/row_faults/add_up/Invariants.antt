use Rattle.suit_plans.proofs.CountsAddUp.{IsLeft}
use Rattle.suit_plans.proofs.row_faults.add_up.Given as goal

abbrev pub invariant-loop-count : goal.invariant-loop-count
invariant-loop-count l = IsLeft l.shares l.fn.mass l.count-index l.rest
