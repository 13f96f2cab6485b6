use Rattle.suit_answer.proofs.AloneTexts.{defence_taken}
use Rattle.suit_answer.proofs.laws.read_defences_are_written.Goals as goal

pub returns : goal.returns
returns c = defence_taken
