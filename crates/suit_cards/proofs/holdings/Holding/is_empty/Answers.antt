use Rattle.std.proofs.Common.{ap, ◌∙◌}
use Rattle.std.proofs.lemmas.Bool.{eqb-true, eq-eqb}
use Rattle.suit_cards.specs.Masks.{marks, ranks_of}
use Rattle.suit_cards.proofs.SuitRuns.{IsHolding-filter_suit}
use Rattle.suit_cards.proofs.MaskMeanings.{mask-none, ranks_of-zero}
use Rattle.suit_cards.proofs.holdings.Holding.is_empty.Goals as goal

pub returns-clause-empty : goal.returns-clause-empty
returns-clause-empty c = rw (← c.self.view_is) (
  λ h. ap ranks_of (eqb-true c.self.inside.mask 0 h) ∙ ranks_of-zero,
  λ h. eq-eqb c.self.inside.mask 0 (mask-none c.self.inside.mask c.self.invariant h),
)

pub returns-clause-holding : goal.returns-clause-holding
returns-clause-holding c = rw (← c.self.view_is) (IsHolding-filter_suit (marks c.self.inside.mask))
