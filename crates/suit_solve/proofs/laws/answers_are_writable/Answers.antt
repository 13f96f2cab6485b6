use Rattle.suit_solve.proofs.FatesTold.{answers_are_writable}
use Rattle.suit_solve.proofs.laws.answers_are_writable.Goals as goal

pub returns : goal.returns
returns c = answers_are_writable
