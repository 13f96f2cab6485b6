use Rattle.suit_num.proofs.IntegerLaws.{div-mul}
use Rattle.suit_num.proofs.laws.exact_division.Goals as goal

pub returns : goal.returns
returns c = div-mul
