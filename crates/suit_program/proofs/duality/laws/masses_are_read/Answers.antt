use Rattle.suit_program.proofs.lemmas.Readings.MassesNoLess.{masses_are_read}
use Rattle.suit_program.proofs.duality.laws.masses_are_read.Goals as goal

pub returns : goal.returns
returns c = masses_are_read
