use Rattle.suit_program.proofs.lemmas.Readings.WorkedExample.{second_plan}
use Rattle.suit_program.proofs.readings.examples.second_plan.Goals as goal

pub returns : goal.returns
returns c = second_plan
