use Rattle.suit_plans.proofs.ChoiceOrder.{plan_choices_rise}
use Rattle.suit_plans.proofs.laws.plan_choices_rise.Goals as goal

pub returns : goal.returns
returns c = plan_choices_rise
