use Rattle.suit_classes.proofs.AllowedMoveByMove.{allowed_moves}
use Rattle.suit_classes.proofs.laws.allowed_moves.Goals as goal

pub returns : goal.returns
returns c = allowed_moves
