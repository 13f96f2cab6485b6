use Rattle.suit_lines.proofs.WhichHistoriesAreTold.{told_in_order}
use Rattle.suit_lines.proofs.laws.told_in_order.Goals as goal

pub returns : goal.returns
returns c = told_in_order
