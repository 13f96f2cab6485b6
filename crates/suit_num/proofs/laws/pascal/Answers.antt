use Rattle.suit_num.proofs.BinomialLaws.{pascal}
use Rattle.suit_num.proofs.laws.pascal.Goals as goal

pub returns : goal.returns
returns c = pascal
