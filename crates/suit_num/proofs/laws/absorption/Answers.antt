use Rattle.suit_num.proofs.BinomialLaws.{binomial-absorbed}
use Rattle.suit_num.proofs.laws.absorption.Goals as goal

pub returns : goal.returns
returns c = binomial-absorbed
