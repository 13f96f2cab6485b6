use Rattle.suit_cards.specs.Masks.{marks}
use Rattle.suit_cards.proofs.SuitRuns.{IsHolding-filter_suit}
use Rattle.suit_cards.proofs.WhetherARankIsHeld.{holds_tells}
use Rattle.suit_cards.proofs.MaskMeanings.{holds-ranks_of}
use Rattle.suit_cards.proofs.holdings.Holding.has.Goals as goal

pub returns-clause-value : goal.returns-clause-value
returns-clause-value c =
    rw (← c.self.view_is) (holds-ranks_of c.self.inside.mask c.index.result c.args.rank c.index.ensures.value
    c.index.ensures.below)

pub returns-clause-held : goal.returns-clause-held
returns-clause-held c = rw (returns-clause-value c) (holds_tells c.args.self c.args.rank)

pub returns-clause-holding : goal.returns-clause-holding
returns-clause-holding c = rw (← c.self.view_is) (IsHolding-filter_suit (marks c.self.inside.mask))
