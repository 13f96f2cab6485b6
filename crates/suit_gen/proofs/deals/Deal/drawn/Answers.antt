use Rattle.std.proofs.Common.{ℕ, ◌/◌, ◌%◌, length, ◌∙◌, ap, arith, refl}
use Rattle.suit_gen.proofs.Dealing.{north_some, deal_made, draws_made}
use Rattle.suit_gen.proofs.deals.Deal.drawn.Goals as goal

pub overflow_sub-result : goal.overflow_sub-result
overflow_sub-result c =
    omega (
      arith,
      c.draw.ensures.below,
      c.max-longer.ensures,
      c.len.ensures.value,
      ap length c.hands_dealt-hands.ensures.north,
      north_some c.args.draws.now.state,
    )

pub returns-clause-state : goal.returns-clause-state
returns-clause-state c = draws_made _ _ _ c.hands_dealt-hands.ensures.state c.draw.ensures.state

pub returns-clause-deal : goal.returns-clause-deal
returns-clause-deal c =
    deal_made _ _ _ _ _ c.hands_dealt-hands.ensures.north c.hands_dealt-hands.ensures.south
    (c.max-longer.ensures ∙ rw (c.len.ensures.value, c.len-2.ensures.value) refl)
    (c.draw.ensures.drawn ∙ ap (λ (n : ℕ). n / 65536 % 2) (returns-clause-state c))
