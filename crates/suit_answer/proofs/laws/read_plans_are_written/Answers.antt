use Rattle.suit_answer.proofs.AloneTexts.{plan_taken}
use Rattle.suit_answer.proofs.laws.read_plans_are_written.Goals as goal

pub returns : goal.returns
returns c = plan_taken
