use Rattle.suit_program.proofs.lemmas.Readings.WorkedExample.{second_program}
use Rattle.suit_program.proofs.readings.examples.second_program.Goals as goal

pub returns : goal.returns
returns c = second_program
