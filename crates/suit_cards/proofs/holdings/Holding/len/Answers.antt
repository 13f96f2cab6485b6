use Rattle.suit_cards.proofs.WhetherARankIsHeld.{length-IsHolding}
use Rattle.suit_cards.specs.Masks.{marks}
use Rattle.suit_cards.proofs.MaskMeanings.{length-ranks_of}
use Rattle.suit_cards.proofs.SuitRuns.{IsHolding-filter_suit}
use Rattle.suit_cards.proofs.holdings.Holding.len.Goals as goal

pub returns-clause-value : goal.returns-clause-value
returns-clause-value c = rw (← c.self.view_is) (length-ranks_of c.self.inside.mask c.self.invariant)

pub returns-clause-holding : goal.returns-clause-holding
returns-clause-holding c = rw (← c.self.view_is) (IsHolding-filter_suit (marks c.self.inside.mask))

pub returns-clause-most : goal.returns-clause-most
returns-clause-most c = rw (returns-clause-value c) (length-IsHolding c.args.self (returns-clause-holding c))
