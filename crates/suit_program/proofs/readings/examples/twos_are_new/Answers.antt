use Rattle.suit_program.proofs.lemmas.Readings.WorkedExample.{twos_are_new}
use Rattle.suit_program.proofs.readings.examples.twos_are_new.Goals as goal

pub returns : goal.returns
returns c = twos_are_new
