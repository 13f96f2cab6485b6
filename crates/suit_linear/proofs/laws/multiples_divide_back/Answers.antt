use Rattle.suit_linear.proofs.PrimitiveMultiples.{primitive_is_row}
use Rattle.suit_linear.proofs.laws.multiples_divide_back.Goals as goal

pub returns : goal.returns
returns c = primitive_is_row
