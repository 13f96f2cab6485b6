use Rattle.suit_cards.proofs.MaskMeanings.{ranks_of-clear}
use Rattle.suit_cards.proofs.SuitRuns.{IsHolding-filter_suit}
use Rattle.suit_cards.proofs.holdings.Holding.without.Goals as goal

pub returns-clause-value : goal.returns-clause-value
returns-clause-value c =
    rw (← c.self.view_is) (ranks_of-clear c.self.inside.mask c.index.result c.args.rank c.index.ensures.value
    c.index.ensures.below)

pub returns-clause-holding : goal.returns-clause-holding
returns-clause-holding c = IsHolding-filter_suit _
