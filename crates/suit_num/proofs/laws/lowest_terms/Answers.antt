use Rattle.suit_num.proofs.FractionLaws.{same_reduced}
use Rattle.suit_num.proofs.laws.lowest_terms.Goals as goal

pub returns : goal.returns
returns c = same_reduced
