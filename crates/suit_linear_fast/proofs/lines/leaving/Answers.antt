use Rattle.std.proofs.Common.{arith}
use Rattle.suit_linear_fast.proofs.RatioTestOnLines.{none_kept, one_kept, all_kept}
use Rattle.suit_linear_fast.proofs.lines.leaving.Goals as goal

pub loop-index-init : goal.loop-index-init
loop-index-init c = none_kept _ _

pub loop-index-preserved : goal.loop-index-preserved
loop-index-preserved c = one_kept c.args.lines.now c.args.entries.now c.loop-index.index c.loop-index.best
    c.better-best.result (omega arith) c.loop-index.invariant c.better-best.ensures.within c.better-best.ensures.value

pub returns-clause-value : goal.returns-clause-value
returns-clause-value c = all_kept c.args.lines.now c.args.entries.now c.loop-index.index c.loop-index.best (omega arith)
    c.loop-index.invariant
