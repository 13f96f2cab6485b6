use Rattle.std.proofs.Common.{◌∙◌}
use Rattle.suit_classes.proofs.OrderIsAsDefined.{eq_same}
use Rattle.suit_classes.proofs.class_moves.ClassMove.is_same.Goals as goal

pub returns : goal.returns
returns c = c.eq.ensures ∙ eq_same c.args.self c.args.other
