use Rattle.suit_classes.proofs.AllowedMoveByMove.{classes_are_runs}
use Rattle.suit_classes.proofs.laws.classes_are_runs.Goals as goal

pub returns : goal.returns
returns c = classes_are_runs
