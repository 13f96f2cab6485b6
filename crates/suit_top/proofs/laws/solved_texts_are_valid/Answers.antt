use Rattle.suit_top.proofs.SolvedTextsAreValid.{solved_texts_are_valid}
use Rattle.suit_top.proofs.laws.solved_texts_are_valid.Goals as goal

pub returns : goal.returns
returns c = solved_texts_are_valid
