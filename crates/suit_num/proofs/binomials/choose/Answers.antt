use Rattle.std.proofs.Common.{◌≡◌, ◌+◌, ◌≤◌, arith, sym}
use Rattle.suit_num.proofs.BinomialLaws.{binomial-none, binomial_past, choose_fits, choose_next}
use Rattle.suit_num.proofs.binomials.choose.Goals as goal

pub returns-then-k-n : goal.returns-then-k-n
returns-then-k-n c = sym (binomial_past _ _ c.if-k-n.true)

pub loop-chosen-init : goal.loop-chosen-init
loop-chosen-init c = sym (binomial-none c.args.n)

pub overflow_mul-ways : goal.overflow_mul-ways
overflow_mul-ways c =
    let few : c.from.result ≤ 26 = omega arith in
    record { fits = choose_fits c.args.n c.loop-chosen.chosen _ _ c.requires c.loop-chosen.invariant few }

pub loop-chosen-preserved : goal.loop-chosen-preserved
loop-chosen-preserved c =
    let split : c.from.result + c.loop-chosen.chosen ≡ c.args.n = omega arith in
    rw c.from-in-loop-chosen.ensures (choose_next _ _ _ _ c.loop-chosen.invariant split)
