use Rattle.suit_program.proofs.lemmas.Readings.WorkedExample.{first_size}
use Rattle.suit_program.proofs.readings.examples.first_size.Goals as goal

pub returns : goal.returns
returns c = first_size
