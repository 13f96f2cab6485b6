use Rattle.suit_top.proofs.SureRunsComplete.{runs_complete}
use Rattle.suit_top.proofs.laws.runs_complete.Goals as goal

pub returns : goal.returns
returns c = runs_complete
