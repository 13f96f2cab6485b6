use Rattle.suit_num.proofs.BinomialLaws.{binomial_all}
use Rattle.suit_num.proofs.laws.all_chosen.Goals as goal

pub returns : goal.returns
returns c = binomial_all
