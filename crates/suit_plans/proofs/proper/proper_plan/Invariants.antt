use Rattle.suit_plans.specs.Properness.{plan_row_fault}
use Rattle.suit_plans.proofs.FirstFaultOfRows.{NoneYet}
use Rattle.suit_plans.proofs.proper.proper_plan.Given as goal

abbrev pub invariant-loop-index : goal.invariant-loop-index
invariant-loop-index l = NoneYet (plan_row_fault l.question l.plan.den) l.rows l.index
