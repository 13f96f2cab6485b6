use Rattle.suit_classes.proofs.ClassGameAgrees.{class_game_agrees}
use Rattle.suit_classes.proofs.laws.class_game_agrees.Goals as goal

pub returns : goal.returns
returns c = class_game_agrees
