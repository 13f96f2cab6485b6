use Rattle.std.proofs.Common.{◌≡◌, sym, ap, ◌∙◌}
use Rattle.std.specs.Prelude.{ℤ, pos, ◌*ℤ◌, FitsSigned}
use Rattle.std.specs.Int.{w64}
use Rattle.std.proofs.lemmas.Int.{to_z-of_z}
use Rattle.std.proofs.Math.IntN.{zero-*ℤ}
use Rattle.suit_num.proofs.IntegerLaws.{mul-one}
use Rattle.suit_linear_fast.proofs.claims.whole_quotient.Goals as goal

pub returns-then-is_same_short : goal.returns-then-is_same_short
returns-then-is_same_short c =
    let product_fits : FitsSigned w64 c.args.product = c.ranges.product in
    let none : c.args.product ≡ pos 0 = simp to_z-of_z at (c.is_same_short.ensures c.if-is_same_short.true) in
    zero-*ℤ c.args.own ∙ sym none

pub returns-then-is_same_short-2 : goal.returns-then-is_same_short-2
returns-then-is_same_short-2 c =
    let product_fits : FitsSigned w64 c.args.product = c.ranges.product in
    let own_fits : FitsSigned w64 c.args.own = c.ranges.own in
    let one : c.args.own ≡ pos 1 = simp to_z-of_z at (c.is_same_short-2.ensures c.if-is_same_short-2.true) in
    simp to_z-of_z (ap (λ (z : ℤ). c.args.product *ℤ z) one ∙ mul-one c.args.product)
