use Rattle.suit_num.proofs.BinomialLaws.{binomial-none}
use Rattle.suit_num.proofs.laws.none_chosen.Goals as goal

pub returns : goal.returns
returns c = binomial-none
