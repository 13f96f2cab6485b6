use Rattle.std.proofs.Common.{◌∙◌}
use Rattle.suit_plans.proofs.LibraryOrder.{eq_same_class_history}
use Rattle.suit_plans.proofs.order.is_same_history.Goals as goal

pub returns : goal.returns
returns c = c.eq.ensures ∙ eq_same_class_history c.args.here.now c.args.there.now
