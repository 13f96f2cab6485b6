use Rattle.suit_program.proofs.lemmas.Readings.WorkedExample.{second_size}
use Rattle.suit_program.proofs.readings.examples.second_size.Goals as goal

pub returns : goal.returns
returns c = second_size
