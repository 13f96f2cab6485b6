use Rattle.std.proofs.Common.{rules, ◌≡◌, ◌∙◌, sym, ap, subst, ℤ, SFits, length, List, Bool, true, false}
use Rattle.std.specs.Prelude.{int_lt}
use Rattle.std.specs.Int.{w128}
use Rattle.std.proofs.lemmas.Int.{to_z-of_z}
use Rattle.suit_num.specs.declared.fraction.Frac.{Frac}
use Rattle.suit_plans.specs.declared.plan.TheConstants.{MOST_DEN}
use Rattle.suit_program.specs.Supports.Marks.{support_seen}
use Rattle.suit_program.proofs.lemmas.Readings.TooWide.{den_narrow, den_wide, parts_long, scale_wide}
use Rattle.suit_program.proofs.readings.plan_den.plan_den.Goals as goal

pub common_den-requires : goal.common_den-requires
common_den-requires c =
    let case = c.requires in
    ap (λ (l : List Frac). length l) c.items.ensures
    ∙ parts_long case.question (support_seen case.question c.args.support.now) c.args.optimum.now case.columns
    ∙ ap (λ (l : List Bool). length l)
    (sym (c.deref.ensures.value ∙ c.in_ok-passed.ensures case.question case.valid case.grown))

pub returns-then-optimum-gt-MOST_DEN-clause-end : goal.returns-then-optimum-gt-MOST_DEN-clause-end
returns-then-optimum-gt-MOST_DEN-clause-end c = λ case.
    let scale : SFits w128 c.args.optimum.now.scale = search rules in
    scale_wide case.question (support_seen case.question c.args.support.now) c.args.optimum.now
    (subst (λ (z : ℤ). int_lt MOST_DEN z ≡ true) (to_z-of_z w128 c.args.optimum.now.scale scale)
    c.if-optimum-gt-MOST_DEN.true)

pub returns-in-Some-clause-den : goal.returns-in-Some-clause-den
returns-in-Some-clause-den c = λ case.
    let scale : SFits w128 c.args.optimum.now.scale = search rules in
    let den : SFits w128 c.in-Some.den = search rules in
    let told = den_narrow case.question (support_seen case.question c.args.support.now) c.args.optimum.now
    c.deref.result.now c.items.result.now
    (c.deref.ensures.value ∙ c.in_ok-passed.ensures case.question case.valid case.grown) c.items.ensures
    c.in-Some.ensures.0
    (subst (λ (z : ℤ). int_lt MOST_DEN z ≡ false) (to_z-of_z w128 c.args.optimum.now.scale scale)
    c.if-optimum-gt-MOST_DEN.false)
    c.in-Some.den c.in-Some.ensures.1 in
    let other = to_z-of_z w128 c.in-Some.den den ∙ told.is_den in
    record {
      narrow = told.narrow;
      is_den = assumption (told.is_den, other);
    }

pub returns-clause-end : goal.returns-clause-end
returns-clause-end c = λ case.
    den_wide case.question (support_seen case.question c.args.support.now) c.args.optimum.now c.deref.result.now
    c.items.result.now (c.deref.ensures.value ∙ c.in_ok-passed.ensures case.question case.valid case.grown)
    c.items.ensures c.in-None.ensures
