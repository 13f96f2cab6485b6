use Rattle.suit_program.proofs.lemmas.Readings.WorkedExample.{second_worth}
use Rattle.suit_program.proofs.readings.examples.second_worth.Goals as goal

pub returns : goal.returns
returns c = second_worth
