use Rattle.suit_solve.proofs.FatesTold.{answers_are_shown}
use Rattle.suit_solve.proofs.laws.answers_are_shown.Goals as goal

pub returns : goal.returns
returns c = answers_are_shown
