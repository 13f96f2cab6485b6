use Rattle.std.proofs.Common.{ℕ, nat_lt, Some, ◌∙◌, refl}
use Rattle.std.specs.Prelude.{◌==◌}
use Rattle.std.specs.Ordering.{nat_cmp}
use Rattle.suit_plans.proofs.LibraryOrder.{cmp_earlier}
use Rattle.suit_plans.proofs.order.counts_are_before.Goals as goal

pub returns : goal.returns
returns c = c.lt.ensures ∙ cmp_earlier (λ (a b : ℕ). Some (nat_cmp a b)) nat_lt (λ (a b : ℕ). a == b) (λ a b. refl)
    c.args.here.now c.args.there.now
