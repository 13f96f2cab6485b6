use Rattle.suit_classes.proofs.AllowedMoveByMove.{layouts_allow_none}
use Rattle.suit_classes.proofs.laws.layouts_allow_none.Goals as goal

pub returns : goal.returns
returns c = layouts_allow_none
