use Rattle.suit_num.proofs.IntegerLaws.{mul_assoc, mul-add_left, mul-sub_left}
use Rattle.suit_num.proofs.laws.integer_products.Goals as goal

pub returns : goal.returns
returns c = λ a b c. (mul_assoc a b c, mul-add_left a b c, mul-sub_left a b c)
