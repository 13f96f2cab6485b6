use Rattle.std.proofs.Common.{arith, rules}
use Rattle.std.specs.Prelude.{◌≡◌, FitsSigned, max, unsigned_abs}
use Rattle.std.specs.Int.{w64}
use Rattle.std.proofs.lemmas.Int.{to_z-of_z}
use Rattle.suit_linear.specs.Points.{number_at}
use Rattle.suit_linear_fast.proofs.ClaimSums.{none_within, one_within, all_within}
use Rattle.suit_linear_fast.proofs.claims.size_of.Goals as goal

pub loop-number-init : goal.loop-number-init
loop-number-init c = none_within _

pub loop-number-preserved : goal.loop-number-preserved
loop-number-preserved c =
    let fits : FitsSigned w64 (number_at c.args.numbers.now c.loop-number.number-index) = search rules in
    let u : c.unsigned_abs.result ≡ unsigned_abs (number_at c.args.numbers.now c.loop-number.number-index) =
    (simp to_z-of_z at c.unsigned_abs.ensures).value in
    let e : c.max-size.result
    ≡ max c.loop-number.size (unsigned_abs (number_at c.args.numbers.now c.loop-number.number-index)) =
    rw u at c.max-size.ensures in
    rw e (one_within c.args.numbers.now c.loop-number.number-index c.loop-number.size c.loop-number.invariant)

pub returns-then-size-le-MOST_SMALL-clause-within : goal.returns-then-size-le-MOST_SMALL-clause-within
returns-then-size-le-MOST_SMALL-clause-within c =
    all_within c.args.numbers.now c.loop-number.number-index c.loop-number.size
    (omega arith) c.loop-number.invariant
