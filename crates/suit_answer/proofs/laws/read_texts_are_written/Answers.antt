use Rattle.suit_answer.proofs.TextTaken.{text_taken}
use Rattle.suit_answer.proofs.laws.read_texts_are_written.Goals as goal

pub returns : goal.returns
returns c = text_taken
