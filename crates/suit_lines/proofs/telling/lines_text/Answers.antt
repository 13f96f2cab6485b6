use Rattle.std.proofs.Common.{[], ℕ, map, refl, ap, ◌∙◌, rules}
use Rattle.std.specs.Prelude.{FitsSigned}
use Rattle.std.specs.Int.{w128}
use Rattle.std.proofs.lemmas.Int.{to_z-of_z}
use Rattle.suit_cards.specs.Cards.{ClassLayout, Sizes}
use Rattle.suit_classes.specs.Classes.{defence_sizes}
use Rattle.suit_classes.specs.ClassPlaces.{class_start}
use Rattle.suit_layouts.specs.ClassLayouts.{class_layouts}
use Rattle.suit_lines.proofs.WalkWhereMassGoes.{all_written, stands_first, stands_same}
use Rattle.suit_lines.proofs.telling.lines_text.Goals as goal

pub write_from-requires-clause-stands : goal.write_from-requires-clause-stands
write_from-requires-clause-stands c =
    let question = c.args.question.now in
    let plan = c.args.answer.now.plan in
    let fits : FitsSigned w128 plan.den = search rules in
    let counts = map (λ layout. layout.now) c.deref-2.result.now in
    let listed =
    ap (map (λ layout. layout.now)) c.deref-2.ensures.value ∙ c.in_ok-without_weights.ensures
    ∙ ap (map (λ (layout : ClassLayout × ℕ). layout.0)) (c.deref.ensures.value ∙ c.in_ok-layouts.ensures.value
    ∙ ap (λ (sizes : Sizes). class_layouts question sizes) (c.as_slice.ensures.value ∙ c.sizes-sizes.ensures.value
    ∙ ap defence_sizes c.of.ensures)) in
    stands_same question plan [] c.new.result.items (class_start question) c.start.result plan.den _ counts counts
    c.new.ensures.items c.start.ensures (to_z-of_z w128 plan.den fits) refl
    (stands_first question plan counts c.requires.valid c.requires.proper listed)

pub returns : goal.returns
returns c =
    all_written c.args.question.now c.args.answer.now c.new.result.items c.new-text.result.items
    c.write_value.new.text.items c.write_from.new.text.items c.new-text.ensures.items c.new.ensures.items
    c.in_ok-write_value.ensures c.in_ok-write_from.ensures.lines
