use Rattle.suit_plans.proofs.WorthsAtTurns.{worth_next}
use Rattle.suit_plans.proofs.laws.worths_unfold.Goals as goal

pub returns : goal.returns
returns c = worth_next
