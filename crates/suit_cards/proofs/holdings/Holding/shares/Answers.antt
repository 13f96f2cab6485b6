use Rattle.suit_cards.proofs.WhetherARankIsHeld.{shares_tells}
use Rattle.suit_cards.proofs.MaskMeanings.{shared_bits}
use Rattle.suit_cards.proofs.holdings.Holding.shares.Goals as goal

pub returns-clause-value : goal.returns-clause-value
returns-clause-value c =
    rw (← c.self.view_is, ← c.other.view_is) (shared_bits c.self.inside.mask c.other.inside.mask c.self.invariant)

pub returns-clause-shared : goal.returns-clause-shared
returns-clause-shared c = rw (returns-clause-value c) (shares_tells c.args.self c.args.other)
