use Rattle.suit_program.proofs.lemmas.Readings.WorkedExample.{first_program}
use Rattle.suit_program.proofs.readings.examples.first_program.Goals as goal

pub returns : goal.returns
returns c = first_program
