use Rattle.suit_layouts.proofs.CountsOfALayout.{layouts_listed}
use Rattle.suit_layouts.proofs.laws.layouts_listed.Goals as goal

pub returns : goal.returns
returns c = layouts_listed
