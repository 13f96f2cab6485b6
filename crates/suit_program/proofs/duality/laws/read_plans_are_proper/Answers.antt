use Rattle.suit_program.proofs.lemmas.Readings.PlansKeepTheWorth.{read_plans_are_proper}
use Rattle.suit_program.proofs.duality.laws.read_plans_are_proper.Goals as goal

pub returns : goal.returns
returns c = read_plans_are_proper
