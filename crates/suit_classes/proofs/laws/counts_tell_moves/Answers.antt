use Rattle.suit_classes.proofs.AllowedMoveByMove.{counts_tell_moves}
use Rattle.suit_classes.proofs.laws.counts_tell_moves.Goals as goal

pub returns : goal.returns
returns c = counts_tell_moves
