use Rattle.suit_layouts.proofs.ClassWeights.{class_weight_counted}
use Rattle.suit_layouts.proofs.laws.class_weights_counted.Goals as goal

pub returns : goal.returns
returns c = class_weight_counted
