use Rattle.std.proofs.Common.{rules, arith, ◌≡◌, ◌∙◌, ◌+◌, ap, sym}
use Rattle.std.specs.Prelude.{ℕ, ℤ, pos, FitsSigned, unsigned_abs}
use Rattle.std.specs.Int.{w64}
use Rattle.std.proofs.lemmas.Int.{to_z-of_z}
use Rattle.suit_num.specs.Divisors.{gcd_of}
use Rattle.suit_linear.specs.Points.{number_at}
use Rattle.suit_linear_fast.proofs.CellSums.{zero_bits64}
use Rattle.suit_linear_fast.proofs.Contents.{content_same, content_more, content_one, short_here, short_all, long_all}
use Rattle.suit_linear_fast.proofs.objective.content.Goals as goal

pub loop-number-preserved-then-number-eq0 : goal.loop-number-preserved-then-number-eq0
loop-number-preserved-then-number-eq0 c =
    let number : ℤ = number_at c.args.numbers.now c.loop-number.number-index in
    let fits : FitsSigned w64 number = search rules in
    content_same _ _ _ (zero_bits64 number fits c.if-number-eq0.true) c.loop-number.invariant

pub returns-then-divisor-eq1 : goal.returns-then-divisor-eq1
returns-then-divisor-eq1 c =
    let number : ℤ = number_at c.args.numbers.now c.loop-number.number-index in
    let fits : FitsSigned w64 number = search rules in
    let size : c.unsigned_abs.result ≡ unsigned_abs number = simp to_z-of_z at c.unsigned_abs.ensures.value in
    let next : c.common_divisor-divisor.result ≡ gcd_of c.loop-number.divisor (unsigned_abs number) =
    c.common_divisor-divisor.ensures ∙ ap (λ (n : ℕ). gcd_of c.loop-number.divisor n) size in
    short_here c.args.numbers.now 1
    (sym c.if-divisor-eq1.true
    ∙ content_one c.args.numbers.now c.common_divisor-divisor.result (c.loop-number.number-index + 1)
    c.if-divisor-eq1.true (content_more _ _ _ _ c.loop-number-test.true next c.loop-number.invariant))
    (omega arith)

pub loop-number-preserved : goal.loop-number-preserved
loop-number-preserved c =
    let number : ℤ = number_at c.args.numbers.now c.loop-number.number-index in
    let fits : FitsSigned w64 number = search rules in
    let size : c.unsigned_abs.result ≡ unsigned_abs number = simp to_z-of_z at c.unsigned_abs.ensures.value in
    content_more _ _ _ _ c.loop-number-test.true
    (c.common_divisor-divisor.ensures ∙ ap (λ (n : ℕ). gcd_of c.loop-number.divisor n) size) c.loop-number.invariant

pub returns-in-Ok : goal.returns-in-Ok
returns-in-Ok c =
    let fits : FitsSigned w64 c.in-Ok.divisor = search rules in
    let is : FitsSigned w64 (pos c.loop-number.divisor) × c.in-Ok.divisor ≡ pos c.loop-number.divisor =
    c.in-Ok.ensures in
    simp to_z-of_z (is.1 ∙ short_all c.args.numbers.now c.loop-number.divisor c.loop-number.number-index
    c.loop-number-test.false c.loop-number.invariant is.0)

pub returns-in-Err : goal.returns-in-Err
returns-in-Err c = long_all c.args.numbers.now c.loop-number.divisor c.loop-number.number-index
    c.loop-number-test.false c.loop-number.invariant c.in-Err.ensures
