use Rattle.std.proofs.Common.{◌≡◌, ◌∙◌, ap, arith}
use Rattle.suit_classes.specs.Classes.{defence_sizes}
use Rattle.suit_layouts.specs.ClassLayouts.{class_weight}
use Rattle.suit_plans.specs.Masses.{weight_of}
use Rattle.suit_plans.proofs.RowLimits.{weight_at_most}
use Rattle.suit_plans.proofs.proper.weight_of.Goals as goal

pub returns-clause-few : goal.returns-clause-few
returns-clause-few c =
    let sizes = c.as_slice.ensures.value ∙ c.sizes.ensures.value ∙ ap defence_sizes c.of.ensures in
    let value : c.class_weight.result ≡ weight_of c.args.question.now c.args.counts.now = c.class_weight.ensures
    ∙ ap (λ s. class_weight c.args.question.now s c.args.counts.now) sizes in
    omega (arith, value, weight_at_most c.args.question.now c.args.counts.now c.requires)
