use Rattle.suit_program.proofs.lemmas.Programs.LinearInThePoint.{costs_tell}
use Rattle.suit_program.proofs.duality.laws.costs_tell.Goals as goal

pub returns : goal.returns
returns c = costs_tell
