use Rattle.suit_program.proofs.lemmas.Readings.DefencesHoldTheWorth.{read_defences_hold_the_worth}
use Rattle.suit_program.proofs.duality.laws.read_defences_hold_the_worth.Goals as goal

pub returns : goal.returns
returns c = read_defences_hold_the_worth
