use Rattle.suit_program.proofs.lemmas.Readings.PlansKeepTheWorth.{read_plans_keep_the_worth}
use Rattle.suit_program.proofs.duality.laws.read_plans_keep_the_worth.Goals as goal

pub returns : goal.returns
returns c = read_plans_keep_the_worth
