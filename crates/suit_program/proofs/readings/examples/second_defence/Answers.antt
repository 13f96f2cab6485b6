use Rattle.suit_program.proofs.lemmas.Readings.WorkedExample.{second_defence}
use Rattle.suit_program.proofs.readings.examples.second_defence.Goals as goal

pub returns : goal.returns
returns c = second_defence
