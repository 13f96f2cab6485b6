use Rattle.suit_plans.proofs.RowLimits.{some_allowed_short}
use Rattle.suit_plans.proofs.proper.plan_row_fault.Goals as goal

pub row_fault-requires-clause-short : goal.row_fault-requires-clause-short
row_fault-requires-clause-short c =
    some_allowed_short c.args.question.now c.items-history.result.now c.requires.valid c.if-not-some_allows.ensures
