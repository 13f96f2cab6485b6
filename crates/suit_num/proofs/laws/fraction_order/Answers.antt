use Rattle.suit_num.proofs.FractionLaws.{fraction_le_trans}
use Rattle.suit_num.proofs.laws.fraction_order.Goals as goal

pub returns : goal.returns
returns c = fraction_le_trans
