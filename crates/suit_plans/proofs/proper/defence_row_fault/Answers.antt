use Rattle.std.proofs.Common.{◌<◌, arith}
use Rattle.suit_plans.specs.Masses.{weight_of}
use Rattle.suit_plans.proofs.RowLimits.{allowed_short}
use Rattle.suit_plans.proofs.proper.defence_row_fault.Goals as goal

pub row_fault-requires-clause-short : goal.row_fault-requires-clause-short
row_fault-requires-clause-short c =
    let weighs : 0 < weight_of c.args.question.now c.counts-counts.result.now =
    omega (arith, c.weight_of-weight.ensures.value, c.if-weight-eq0.false) in
    allowed_short c.args.question.now c.counts-counts.result.now c.items-history.result.now c.requires.valid weighs
    c.if-not-allows.ensures
