use Rattle.std.proofs.Common.{◌∙◌}
use Rattle.suit_classes.proofs.OrderIsAsDefined.{any_among}
use Rattle.suit_classes.proofs.class_moves.is_among.Goals as goal

pub returns : goal.returns
returns c = c.contains.ensures.value ∙ any_among c.args.moves.now c.args.mv
