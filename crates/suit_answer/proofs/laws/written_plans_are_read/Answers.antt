use Rattle.suit_answer.proofs.AloneTexts.{plan_back}
use Rattle.suit_answer.proofs.laws.written_plans_are_read.Goals as goal

pub returns : goal.returns
returns c = plan_back
