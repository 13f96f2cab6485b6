use Rattle.std.proofs.Common.{◌∙◌}
use Rattle.suit_linear_fast.proofs.Contents.{gcd_step, gcd_end}
use Rattle.suit_linear_fast.proofs.lines.common_divisor.Goals as goal

pub loop-y-preserved : goal.loop-y-preserved
loop-y-preserved c = gcd_step c.loop-y.x c.loop-y.y c.loop-y-test.true ∙ c.loop-y.invariant

pub returns : goal.returns
returns c = gcd_end c.loop-y.x c.loop-y.y c.loop-y-test.false ∙ c.loop-y.invariant
