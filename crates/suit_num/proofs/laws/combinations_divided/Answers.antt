use Rattle.suit_num.proofs.IntegerLaws.{divides_combination}
use Rattle.suit_num.proofs.laws.combinations_divided.Goals as goal

pub returns : goal.returns
returns c = divides_combination
