use Rattle.suit_num.proofs.DivisorLaws.{IsGcd-iff}
use Rattle.suit_num.proofs.laws.greatest_divisor.Goals as goal

pub returns : goal.returns
returns c = IsGcd-iff
