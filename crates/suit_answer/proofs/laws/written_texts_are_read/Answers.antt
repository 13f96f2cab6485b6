use Rattle.suit_answer.proofs.TextBack.{text_back}
use Rattle.suit_answer.proofs.laws.written_texts_are_read.Goals as goal

pub returns : goal.returns
returns c = text_back
