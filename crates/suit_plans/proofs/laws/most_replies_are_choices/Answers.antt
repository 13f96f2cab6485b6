use Rattle.suit_plans.proofs.ReplyChoices.{most_choices}
use Rattle.suit_plans.proofs.laws.most_replies_are_choices.Goals as goal

pub returns : goal.returns
returns c = most_choices
