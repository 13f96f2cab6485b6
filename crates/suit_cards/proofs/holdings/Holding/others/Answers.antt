use Rattle.suit_cards.proofs.MaskMeanings.{ranks_of-neither}
use Rattle.suit_cards.proofs.SuitRuns.{IsHolding-filter_suit}
use Rattle.suit_cards.proofs.holdings.Holding.others.Goals as goal

pub returns-clause-value : goal.returns-clause-value
returns-clause-value c =
    rw (← c.self.view_is, ← c.other.view_is)
    (ranks_of-neither c.self.inside.mask c.other.inside.mask c.self.invariant c.other.invariant)

pub returns-clause-holding : goal.returns-clause-holding
returns-clause-holding c = IsHolding-filter_suit _
