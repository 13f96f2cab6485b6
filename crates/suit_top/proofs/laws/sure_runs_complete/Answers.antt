use Rattle.suit_top.proofs.SureRunsComplete.{sure_runs_complete}
use Rattle.suit_top.proofs.laws.sure_runs_complete.Goals as goal

pub returns : goal.returns
returns c = sure_runs_complete
