use Rattle.suit_num.proofs.DivisorLaws.{IsLcm-iff}
use Rattle.suit_num.proofs.laws.least_multiple.Goals as goal

pub returns : goal.returns
returns c = IsLcm-iff
