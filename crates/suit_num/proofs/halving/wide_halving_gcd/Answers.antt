use Rattle.std.proofs.Common.{◌^◌, rules}
use Rattle.std.specs.Int.{w128}
use Rattle.suit_num.proofs.OddParts.{halves_first, halves_next, halves_last, gcd_whole, gcd_same}
use Rattle.suit_num.proofs.halving.wide_halving_gcd.Goals as goal

pub loop-x-init : goal.loop-x-init
loop-x-init c = rw c.min-twos.ensures
    (halves_first w128 _ _ c.requires.positive_a (search rules) c.requires.positive_b (search rules))

pub returns-in-Ok-Ok : goal.returns-in-Ok-Ok
returns-in-Ok-Ok c =
    gcd_whole _ _ (2 ^ 128) _ c.requires.positive_a (search rules)
    (c.loop-x.invariant.same _ (gcd_same _ _ _ _ _ _ c.in-Ok-Ok.ensures.1 c.in-Ok-Ok.ensures'.1 c.from.ensures
    c.halving_gcd.ensures))

pub loop-x-preserved : goal.loop-x-preserved
loop-x-preserved c = rw c.min-y.ensures
    (halves_next w128 _ _ _ _ _ _ c.loop-x.invariant c.loop-x-test.true c.abs_diff-gap.ensures (search rules))

pub returns : goal.returns
returns c = gcd_whole _ _ (2 ^ 128) _ c.requires.positive_a (search rules)
    (halves_last _ _ _ _ _ c.loop-x.invariant c.loop-x-test.false)
