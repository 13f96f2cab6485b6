use Rattle.std.proofs.Common.{◌∙◌, ◌<◌, sym, ap, subst}
use Rattle.suit_cards.specs.Cards.{ClassLayout}
use Rattle.suit_classes.specs.WhatIsAllowed.{allows, allows_from}
use Rattle.suit_classes.specs.declared.class_view.ClassView.{ClassView}
use Rattle.suit_classes.specs.Classes.{defence_sizes}
use Rattle.suit_layouts.specs.ClassLayouts.{class_layouts}
use Rattle.suit_plans.specs.Masses.{weight_of}
use Rattle.suit_plans.proofs.SomeLayoutAllows.{StillToCome, all_to_come, found_to_come, next_to_come, none_to_come}
use Rattle.suit_plans.proofs.allowed.some_allows.Goals as goal

pub loop-layout-init : goal.loop-layout-init
loop-layout-init c =
    let sizes = c.as_slice.ensures.value ∙ c.sizes-sizes.ensures.value ∙ ap defence_sizes c.of-classes.ensures in
    let all = c.into_iter-layout-iterator.ensures.into_iter_gives ∙ c.new-layout-items.ensures.value
    ∙ ap (class_layouts c.args.question.now) sizes in
    subst (StillToCome c.args.question.now c.args.history.now) (sym all)
    (all_to_come c.args.question.now c.args.history.now)

pub allows_from-requires : goal.allows_from-requires
allows_from-requires c =
    let come = subst (StillToCome c.args.question.now c.args.history.now) c.in-Some.ensures.steps
    c.loop-layout.invariant in
    record {
      question = c.args.question.now;
      valid = c.requires;
      weighs = subst (λ (counts : ClassLayout). 0 < weight_of c.args.question.now counts) (sym c.counts.ensures.value)
          come.weigh.0;
      first = c.start-start.ensures;
    }

pub returns-then-allows_from : goal.returns-then-allows_from
unfolding allows
returns-then-allows_from c =
    let come = subst (StillToCome c.args.question.now c.args.history.now) c.in-Some.ensures.steps
    c.loop-layout.invariant in
    found_to_come c.args.question.now c.args.history.now (c.in-Some.layout, c.in-Some.field-0-1) c.next.new.self come
    (c.if-allows_from.ensures ∙ ap (λ (counts : ClassLayout). allows_from counts c.start-start.result c.args.history.now)
    c.counts.ensures.value
    ∙ ap (λ (v : ClassView). allows_from c.in-Some.layout v c.args.history.now) c.start-start.ensures)

pub loop-layout-preserved : goal.loop-layout-preserved
unfolding allows
loop-layout-preserved c =
    let come = subst (StillToCome c.args.question.now c.args.history.now) c.in-Some.ensures.steps
    c.loop-layout.invariant in
    next_to_come c.args.question.now c.args.history.now (c.in-Some.layout, c.in-Some.field-0-1) c.next.new.self come
    (c.if-allows_from.ensures ∙ ap (λ (counts : ClassLayout). allows_from counts c.start-start.result c.args.history.now)
    c.counts.ensures.value
    ∙ ap (λ (v : ClassView). allows_from c.in-Some.layout v c.args.history.now) c.start-start.ensures)

pub returns : goal.returns
returns c = none_to_come c.args.question.now c.args.history.now
    (subst (StillToCome c.args.question.now c.args.history.now) c.in-None.ensures.steps.0 c.loop-layout.invariant)
