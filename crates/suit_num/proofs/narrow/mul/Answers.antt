use Rattle.suit_num.proofs.NarrowProducts.{narrowed, product_of}
use Rattle.suit_num.proofs.narrow.mul.Goals as goal

pub returns-in-Ok-Ok : goal.returns-in-Ok-Ok
returns-in-Ok-Ok c =
    product_of c.args.a c.args.b _ _ c.ranges.a c.ranges.b
    (narrowed _ _ _ c.ranges.a c.in-Ok-Ok.ensures c.from.ensures)
    (narrowed _ _ _ c.ranges.b c.in-Ok-Ok.ensures' c.from-in-Ok-Ok.ensures)
