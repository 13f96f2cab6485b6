use Rattle.suit_plans.specs.Properness.{defence_row_fault}
use Rattle.suit_plans.proofs.FirstFaultOfRows.{NoneYet}
use Rattle.suit_plans.proofs.proper.proper_defence.Given as goal

abbrev pub invariant-loop-index : goal.invariant-loop-index
invariant-loop-index l = NoneYet (defence_row_fault l.question l.defence.den) l.rows l.index
