use Rattle.suit_program.proofs.lemmas.Programs.ObjectiveIsBounded.{programs_are_bounded}
use Rattle.suit_program.proofs.duality.laws.programs_are_bounded.Goals as goal

pub returns : goal.returns
returns c = programs_are_bounded
