use Rattle.std.proofs.Common.{◌∙◌, ap, sym, subst}
use Rattle.suit_classes.specs.ClassPlaces.{ClassView, IsSmall, class_step}
use Rattle.suit_classes.proofs.SmallCounts.{small_after, class_after_move}
use Rattle.suit_classes.proofs.class_place.ClassPlace.step.Goals as goal

pub returns : goal.returns
returns c = λ question history short is.
    let here = c.self.view_is ∙ is in
    c.step.ensures.value (subst IsSmall (sym here) (small_after question history short))
    ∙ ap (λ (view : ClassView). class_step view c.args.mv) here ∙ sym (class_after_move question history c.args.mv)
