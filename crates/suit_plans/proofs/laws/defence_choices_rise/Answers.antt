use Rattle.suit_plans.proofs.ChoiceOrder.{defence_choices_rise}
use Rattle.suit_plans.proofs.laws.defence_choices_rise.Goals as goal

pub returns : goal.returns
returns c = defence_choices_rise
