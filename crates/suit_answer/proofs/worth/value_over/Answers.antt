use Rattle.std.proofs.Common.{rules, ◌≡◌, ◌≤◌, ℕ, ℤ, pos, ◌*ℤ◌, ◌<ℤ◌, to_z, of_z, FitsSigned, arith, sym, ap, ◌∙◌}
use Rattle.std.proofs.Common.{subst}
use Rattle.std.specs.Int.{w128}
use Rattle.std.proofs.lemmas.Int.{to_z-of_z, to_z_pos}
use Rattle.suit_game.specs.Layouts.{total}
use Rattle.suit_game.proofs.WhatAllLayoutsWeigh.{total_at_most}
use Rattle.suit_game.specs.declared.limits.TheConstants.{MOST_TOTAL}
use Rattle.suit_answer.proofs.OneFractionInLowestTerms.{made_fraction, some_from_one, whole_fits, whole_over}
use Rattle.suit_answer.proofs.worth.value_over.Goals as goal

pub overflow_mul-den : goal.overflow_mul-den
overflow_mul-den c =
    let den : ℤ = c.args.den in
    let weight : ℕ = c.total.result in
    let den_fits : FitsSigned w128 den = search rules in
    let few : weight ≤ MOST_TOTAL =
    omega (arith, c.total.ensures, total_at_most c.args.question.now c.requires.valid) in
    let product : to_z w128 (of_z w128 den) *ℤ to_z w128 weight ≡ den *ℤ pos weight =
    ap (λ (z : ℤ). z *ℤ to_z w128 weight) (to_z-of_z w128 den den_fits)
    ∙ ap (λ (z : ℤ). den *ℤ z) (to_z_pos w128 weight (omega (arith, few))) in
    let fits : FitsSigned w128 (to_z w128 (of_z w128 den) *ℤ to_z w128 weight) =
    subst (FitsSigned w128) (sym product) (whole_fits den weight c.requires.den.0 c.requires.den.1 few) in
    fits

pub reduced-requires-clause-positive : goal.reduced-requires-clause-positive
reduced-requires-clause-positive c =
    let den : ℤ = c.args.den in
    let weight : ℕ = c.total.result in
    let den_fits : FitsSigned w128 den = search rules in
    let few : weight ≤ MOST_TOTAL =
    omega (arith, c.total.ensures, total_at_most c.args.question.now c.requires.valid) in
    let product : to_z w128 (of_z w128 den) *ℤ to_z w128 weight ≡ den *ℤ pos weight =
    ap (λ (z : ℤ). z *ℤ to_z w128 weight) (to_z-of_z w128 den den_fits)
    ∙ ap (λ (z : ℤ). den *ℤ z) (to_z_pos w128 weight (omega (arith, few))) in
    let fits : FitsSigned w128 (to_z w128 (of_z w128 den) *ℤ to_z w128 weight) =
    subst (FitsSigned w128) (sym product) (whole_fits den weight c.requires.den.0 c.requires.den.1 few) in
    subst (λ (z : ℤ). pos 0 <ℤ z)
    (sym (to_z-of_z w128 (to_z w128 (of_z w128 den) *ℤ to_z w128 weight) fits ∙ product
    ∙ ap (λ (n : ℕ). den *ℤ pos n) c.total.ensures))
    (whole_over c.args.question.now den c.requires.valid (some_from_one den c.requires.den.0))

pub returns : goal.returns
returns c =
    let den : ℤ = c.args.den in
    let weight : ℕ = c.total.result in
    let den_fits : FitsSigned w128 den = search rules in
    let few : weight ≤ MOST_TOTAL =
    omega (arith, c.total.ensures, total_at_most c.args.question.now c.requires.valid) in
    let product : to_z w128 (of_z w128 den) *ℤ to_z w128 weight ≡ den *ℤ pos weight =
    ap (λ (z : ℤ). z *ℤ to_z w128 weight) (to_z-of_z w128 den den_fits)
    ∙ ap (λ (z : ℤ). den *ℤ z) (to_z_pos w128 weight (omega (arith, few))) in
    let fits : FitsSigned w128 (to_z w128 (of_z w128 den) *ℤ to_z w128 weight) =
    subst (FitsSigned w128) (sym product) (whole_fits den weight c.requires.den.0 c.requires.den.1 few) in
    let number_fits : FitsSigned w128 c.args.number = search rules in
    let found = c.reduced.result in
    let whole : ℤ = den *ℤ pos (total c.args.question.now) in
    let made : to_z w128 (of_z w128 (to_z w128 (of_z w128 den) *ℤ to_z w128 weight)) ≡ whole =
    to_z-of_z w128 (to_z w128 (of_z w128 den) *ℤ to_z w128 weight) fits ∙ product
    ∙ ap (λ (n : ℕ). den *ℤ pos n) c.total.ensures in
    let comes : c.args.number *ℤ found.den ≡ found.num *ℤ whole =
    ap (λ (z : ℤ). z *ℤ found.den) (sym (to_z-of_z w128 c.args.number number_fits)) ∙ sym c.reduced.ensures.value
    ∙ ap (λ (z : ℤ). found.num *ℤ z) made in
    made_fraction found c.args.number whole
    (whole_over c.args.question.now den c.requires.valid (some_from_one den c.requires.den.0)) comes
