use Rattle.suit_layouts.proofs.ClassWeights.{layouts_grouped}
use Rattle.suit_layouts.proofs.laws.layouts_grouped.Goals as goal

pub returns : goal.returns
returns c = layouts_grouped
