use Rattle.suit_program.proofs.lemmas.Programs.WellFormed.{programs_are_well_formed}
use Rattle.suit_program.proofs.duality.laws.programs_are_well_formed.Goals as goal

pub returns : goal.returns
returns c = programs_are_well_formed
