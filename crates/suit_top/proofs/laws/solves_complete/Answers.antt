use Rattle.suit_top.proofs.SureRunsComplete.{solves_complete}
use Rattle.suit_top.proofs.laws.solves_complete.Goals as goal

pub returns : goal.returns
returns c = solves_complete
