use Rattle.suit_plans.proofs.ReplyChoices.{least_choices}
use Rattle.suit_plans.proofs.laws.least_replies_are_choices.Goals as goal

pub returns : goal.returns
returns c = least_choices
