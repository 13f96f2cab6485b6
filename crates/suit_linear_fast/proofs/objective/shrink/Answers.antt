use Rattle.std.proofs.Common.{arith, rules, ◌≡◌, sym, ◌∙◌, true}
use Rattle.std.specs.Prelude.{FitsSigned, pos, ◌*ℤ◌, int_lt}
use Rattle.std.specs.Int.{w64}
use Rattle.std.proofs.lemmas.Int.{to_z-of_z}
use Rattle.suit_num.proofs.IntegerLaws.{int_lt-true}
use Rattle.suit_linear.specs.Points.{number_at}
use Rattle.suit_linear_fast.proofs.ObjectiveSteps.{none_shrunk, shrunk_more, all_shrunk, same_shrunk}
use Rattle.suit_linear_fast.proofs.objective.shrink.Goals as goal

pub returns-then-not-is_positive-clause-value : goal.returns-then-not-is_positive-clause-value
returns-then-not-is_positive-clause-value c = λ t. same_shrunk c.args.numbers.now

pub returns-then-is_same_short-clause-value : goal.returns-then-is_same_short-clause-value
returns-then-is_same_short-clause-value c = λ t. same_shrunk c.args.numbers.now

pub loop-number-init : goal.loop-number-init
loop-number-init c = none_shrunk _ _

pub loop-number-preserved : goal.loop-number-preserved
loop-number-preserved c =
    let divisor_fits : FitsSigned w64 c.content-divisor.result = search rules in
    let number_fits : FitsSigned w64 (number_at c.loop-number.numbers c.loop-number.number-index) = search rules in
    let quotient_fits : FitsSigned w64 c.in-Some.quotient = search rules in
    let value : c.in-Some.quotient *ℤ c.content-divisor.result
    ≡ number_at c.loop-number.numbers c.loop-number.number-index =
    simp to_z-of_z at (rw c.in-Some.is at c.exact.ensures) in
    simp to_z-of_z (shrunk_more c.content-divisor.result c.args.numbers.now c.loop-number.number-index
    c.loop-number.numbers c.in-Some.quotient (omega arith) (simp to_z-of_z at c.loop-number.invariant) value)

pub returns-clause-value : goal.returns-clause-value
returns-clause-value c =
    let divisor_fits : FitsSigned w64 c.content-divisor.result = search rules in
    let some : int_lt (pos 0) c.content-divisor.result ≡ true =
    simp to_z-of_z at (sym c.is_positive.ensures ∙ c.if-not-is_positive.false) in
    λ t. all_shrunk c.content-divisor.result c.args.numbers.now c.loop-number.number-index c.loop-number.numbers
    (omega arith) (int_lt-true (pos 0) c.content-divisor.result some)
    (simp to_z-of_z at c.loop-number.invariant)
