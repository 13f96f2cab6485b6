use Rattle.suit_num.proofs.BinomialLaws.{binomial_rest}
use Rattle.suit_num.proofs.laws.rest_chosen.Goals as goal

pub returns : goal.returns
returns c = binomial_rest
