use Rattle.suit_layouts.proofs.CountsOfALayout.{class_layouts_held}
use Rattle.suit_layouts.proofs.laws.class_layouts_held.Goals as goal

pub returns : goal.returns
returns c = class_layouts_held
