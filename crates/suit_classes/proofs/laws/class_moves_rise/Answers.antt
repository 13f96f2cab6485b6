use Rattle.suit_classes.proofs.ClassMovesRise.{class_moves_rise}
use Rattle.suit_classes.proofs.laws.class_moves_rise.Goals as goal

pub returns : goal.returns
returns c = class_moves_rise
