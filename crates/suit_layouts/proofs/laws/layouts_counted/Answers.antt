use Rattle.suit_layouts.proofs.CountsOfALayout.{layouts_counted}
use Rattle.suit_layouts.proofs.laws.layouts_counted.Goals as goal

pub returns : goal.returns
returns c = layouts_counted
