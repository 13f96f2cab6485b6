use Rattle.suit_program.proofs.lemmas.Readings.WorkedExample.{first_columns}
use Rattle.suit_program.proofs.readings.examples.first_columns.Goals as goal

pub returns : goal.returns
returns c = first_columns
