use Rattle.suit_program.proofs.lemmas.Programs.LinearInThePoint.{rows_tell}
use Rattle.suit_program.proofs.duality.laws.rows_tell.Goals as goal

pub returns : goal.returns
returns c = rows_tell
