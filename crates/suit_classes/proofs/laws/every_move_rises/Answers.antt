use Rattle.suit_classes.proofs.ClassMovesRise.{every_move_rises}
use Rattle.suit_classes.proofs.laws.every_move_rises.Goals as goal

pub returns : goal.returns
returns c = every_move_rises
