use Rattle.suit_solve.proofs.FatesTold.{rounds_end}
use Rattle.suit_solve.proofs.laws.rounds_end.Goals as goal

pub returns : goal.returns
returns c = rounds_end
