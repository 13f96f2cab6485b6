-- The rows of a proper plan and of a proper defence stand in order.
use Rattle.suit_game.specs.declared.question.Question.{Question}
use Rattle.suit_plans.specs.declared.plan.Plan.{Plan}
use Rattle.suit_plans.specs.declared.defence.Defence.{Defence}
use Rattle.suit_plans.specs.Orders.{InOrder, defence_row_before, plan_row_before}
use Rattle.suit_plans.specs.Properness.{IsProperDefence, IsProperPlan, defence_row_fault, plan_row_fault}
use Rattle.suit_plans.proofs.ProperDefences as defences
use Rattle.suit_plans.proofs.ProperPlans as plans
use Rattle.suit_plans.proofs.RowsBeforeTell.{IsRowOrder-defences, IsRowOrder-histories, faultless_in_order}

-- the rows of a proper plan stand in order
pub plan_in_order : (question : Question) (plan : Plan) → IsProperPlan question plan → InOrder plan_row_before plan.rows
plan_in_order question plan proper =
    faultless_in_order plan_row_before (plan_row_fault question plan.den) plan.rows IsRowOrder-histories
    (plans.told_order question plan.den)
    (plans.proper_plan question plan proper).2

-- the rows of a proper defence stand in order
pub defence_in_order : (question : Question) (defence : Defence) → IsProperDefence question defence
    → InOrder defence_row_before defence.rows
defence_in_order question defence proper =
    faultless_in_order defence_row_before (defence_row_fault question defence.den) defence.rows IsRowOrder-defences
    (defences.told_order question defence.den)
    (defences.proper_defence question defence proper).2
