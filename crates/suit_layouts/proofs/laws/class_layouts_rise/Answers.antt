use Rattle.suit_layouts.proofs.ClassLayoutsRise.{class_layouts_rise}
use Rattle.suit_layouts.proofs.laws.class_layouts_rise.Goals as goal

pub returns : goal.returns
returns c = class_layouts_rise
