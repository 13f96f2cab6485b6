use Rattle.suit_plans.proofs.ChoiceOrder.{least_rises}
use Rattle.suit_plans.proofs.laws.least_replies_rise.Goals as goal

pub returns : goal.returns
returns c = least_rises
