use Rattle.suit_lines.proofs.WhichHistoriesAreTold.{told_exactly}
use Rattle.suit_lines.proofs.laws.told_exactly.Goals as goal

pub returns : goal.returns
returns c = told_exactly
