use Rattle.suit_plans.proofs.ChoiceOrder.{most_rises}
use Rattle.suit_plans.proofs.laws.most_replies_rise.Goals as goal

pub returns : goal.returns
returns c = most_rises
