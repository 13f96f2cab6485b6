use Rattle.std.proofs.Common.{rules, ◌≡◌, ◌∙◌, sym, ap, subst, pos, get_or, false, ℕ, ℤ, SFits, to_z, of_z}
use Rattle.std.proofs.Common.{arith}
use Rattle.std.proofs.Common.{◌<◌, ◌≤◌, ◌≤ℤ◌, ◌<ℤ◌, ◌+◌, drop, unsigned_abs}
use Rattle.std.specs.Int.{w128}
use Rattle.std.proofs.lemmas.Int.{ints, to_z-of_z}
use Rattle.suit_plans.specs.declared.plan.TheConstants.{MOST_DEN}
use Rattle.suit_program.specs.Readings.{parts_of}
use Rattle.suit_program.specs.Readings.Sharing.{common_of}
use Rattle.suit_program.proofs.lemmas.Readings.LeastCommonMultiple.{common_last, in_all, in_all_first, none_common}
use Rattle.suit_program.proofs.lemmas.Readings.LeastCommonMultiple.{step_common}
use Rattle.suit_program.proofs.lemmas.Readings.LeastCommonMultiple.{step_within}
use Rattle.suit_program.proofs.readings.denominators.common_den.Goals as goal
use Rattle.suit_program.proofs.readings.denominators.common_den.Goals.{then-passed-index+in_ok-den, else-passed-index}

pub loop-index-init : goal.loop-index-init
loop-index-init c = record {
  some = omega (arith, ints);
  few = omega (arith, ints);
  in_all = in_all_first c.args.passed.now c.args.parts.now;
}

pub returns-in_err-den : goal.returns-in_err-den
returns-in_err-den c =
    let i = c.loop-index.index in
    let parts = c.args.parts.now in
    let part = c.index-parts-index.result in
    let below = subst (λ (n : ℕ). i < n) c.requires c.loop-index-test.true in
    let fits : SFits w128 (get_or parts i part).den = search rules in
    rw c.from_residual.ensures (λ few. c.in_err-den.ensures (step_within (to_z w128 c.loop-index.den-bits) _ MOST_DEN
    c.args.passed.now parts i false part (common_of c.args.passed.now (parts_of parts)) below c.loop-index-test.true
    c.loop-index.invariant.some c.if-passed-index.true (to_z-of_z w128 (get_or parts i part).den fits)
    c.loop-index.invariant.in_all few))

pub loop-index-preserved : goal.loop-index-preserved
loop-index-preserved c =
    let i = c.loop-index.index in
    let parts = c.args.parts.now in
    let below = subst (λ (n : ℕ). i < n) c.requires c.loop-index-test.true in
    let den = to_z w128 c.loop-index.den-bits in
    elim c.if-passed-index.branch [
      | then-passed-index+in_ok-den w ↦
          let part = w.index-parts-index.result in
          let fits : SFits w128 (get_or parts i part).den = search rules in
          let found : SFits w128 w.in_ok-den.den = search rules in
          let is = w.den-is ∙ to_z-of_z w128 w.in_ok-den.den found ∙ w.in_ok-den.ensures.1 in
          let step = step_common den (to_z w128 (of_z w128 (get_or parts i part).den)) c.args.passed.now parts i false
          part below c.loop-index-test.true c.loop-index.invariant.some w.if-passed-index.true
          (to_z-of_z w128 (get_or parts i part).den fits) in
          record {
            some = subst (λ (z : ℤ). pos 0 <ℤ z) (sym is) step.some;
            few = subst (λ (z : ℤ). z ≤ℤ MOST_DEN) (sym is) w.in_ok-den.ensures.0;
            in_all = ap (λ (z : ℤ). in_all z (drop (i + 1) c.args.passed.now) (drop (i + 1) parts)) is
                ∙ step.in_all ∙ c.loop-index.invariant.in_all;
          }
      | else-passed-index w ↦ record {
        some = subst (λ (z : ℤ). pos 0 <ℤ z) (sym w.den-is) c.loop-index.invariant.some;
        few = subst (λ (z : ℤ). z ≤ℤ MOST_DEN) (sym w.den-is) c.loop-index.invariant.few;
        in_all = ap (λ (z : ℤ). in_all z (drop (i + 1) c.args.passed.now) (drop (i + 1) parts)) w.den-is
            ∙ none_common den c.args.passed.now parts i false below c.loop-index-test.true
            w.if-passed-index.false
            ∙ c.loop-index.invariant.in_all;
      }
    ]

positive_is : (z : ℤ) (n : ℕ) → pos 0 <ℤ z → unsigned_abs z ≡ n → z ≡ pos n
positive_is z n some is = omega (arith, ints, some, is)

pub returns : goal.returns
returns c =
    let den = to_z w128 c.loop-index.den-bits in
    let past = subst (λ (n : ℕ). n ≤ c.loop-index.index) c.requires c.loop-index-test.false in
    let is = positive_is den _ c.loop-index.invariant.some
    (sym (common_last den c.args.passed.now c.args.parts.now c.loop-index.index past c.loop-index.invariant.some)
    ∙ c.loop-index.invariant.in_all) in (
      subst (λ (z : ℤ). z ≤ℤ MOST_DEN) is c.loop-index.invariant.few,
      is,
    )
