use Rattle.suit_num.proofs.BinomialLaws.{binomial_past}
use Rattle.suit_num.proofs.laws.too_many_chosen.Goals as goal

pub returns : goal.returns
returns c = binomial_past
