use Rattle.suit_layouts.proofs.ClassWeights.{class_weights_add_up}
use Rattle.suit_layouts.proofs.laws.class_weights_add_up.Goals as goal

pub returns : goal.returns
returns c = class_weights_add_up
