use Rattle.suit_program.proofs.lemmas.Readings.DefencesHoldTheWorth.{read_defences_are_proper}
use Rattle.suit_program.proofs.duality.laws.read_defences_are_proper.Goals as goal

pub returns : goal.returns
returns c = read_defences_are_proper
