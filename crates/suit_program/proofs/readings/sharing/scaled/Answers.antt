use Rattle.std.proofs.Common.{rules, ◌≡◌, ◌*ℤ◌, ◌∙◌, sym, ap, subst, ℤ, SFits}
use Rattle.std.specs.Prelude.{int_div}
use Rattle.std.specs.Int.{w128}
use Rattle.std.proofs.lemmas.Int.{fits_signed_from_abs, quot_fits, quot_is, to_z-of_z}
use Rattle.suit_num.specs.declared.fraction.Frac.{Frac}
use Rattle.suit_program.specs.Readings.{scaled}
use Rattle.suit_program.specs.Readings.Sharing.{IsPartOfDen}
use Rattle.suit_program.proofs.lemmas.Readings.SharesOneByOne.{scaled_is}
use Rattle.suit_program.proofs.readings.sharing.scaled.Goals as goal

-- the product that is worked out
product : (den : ℤ) (part : Frac) (quotient num : ℤ) → IsPartOfDen den part → quotient ≡ int_div den part.den
    → num ≡ part.num → quotient *ℤ num ≡ scaled den (part.num, part.den)
product den part quotient num is exact same =
    ap (λ (z : ℤ). z *ℤ num) exact ∙ ap (λ (z : ℤ). int_div den part.den *ℤ z) same
    ∙ scaled_is den part.num part.den part.positive is.divides

fitting : (den : ℤ) (part : Frac) (z : ℤ) → IsPartOfDen den part → z ≡ scaled den (part.num, part.den) → SFits w128 z
fitting den part z is same = subst (SFits w128) (sym same) (fits_signed_from_abs w128 (scaled den (
  part.num,
  part.den,
)) is.narrow)

pub overflow_mul-result : goal.overflow_mul-result
overflow_mul-result c =
    let num : SFits w128 c.args.part.now.num = search rules in
    let den : SFits w128 c.args.part.now.den = search rules in
    fitting c.args.den c.args.part.now _ c.requires (product c.args.den c.args.part.now _ _ c.requires
    (quot_is w128 _ _ c.ranges.den den (quot_fits w128 _ _ c.ranges.den c.args.part.now.positive))
    (to_z-of_z w128 c.args.part.now.num num))

pub returns : goal.returns
returns c =
    let num : SFits w128 c.args.part.now.num = search rules in
    let den : SFits w128 c.args.part.now.den = search rules in
    let is = product c.args.den c.args.part.now _ _ c.requires
    (quot_is w128 _ _ c.ranges.den den (quot_fits w128 _ _ c.ranges.den c.args.part.now.positive))
    (to_z-of_z w128 c.args.part.now.num num) in
    to_z-of_z w128 _ (fitting c.args.den c.args.part.now _ c.requires is) ∙ is
