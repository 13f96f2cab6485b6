use Rattle.suit_layouts.proofs.FewCounts.{class_layouts_few}
use Rattle.suit_layouts.proofs.laws.class_layouts_few.Goals as goal

pub returns : goal.returns
returns c = class_layouts_few
