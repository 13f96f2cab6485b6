use Rattle.suit_answer.proofs.AloneTexts.{defence_back}
use Rattle.suit_answer.proofs.laws.written_defences_are_read.Goals as goal

pub returns : goal.returns
returns c = defence_back
