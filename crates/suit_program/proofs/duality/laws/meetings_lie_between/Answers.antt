use Rattle.suit_program.proofs.lemmas.Duality.WeakDuality.{meetings_lie_between}
use Rattle.suit_program.proofs.duality.laws.meetings_lie_between.Goals as goal

pub returns : goal.returns
returns c = meetings_lie_between
