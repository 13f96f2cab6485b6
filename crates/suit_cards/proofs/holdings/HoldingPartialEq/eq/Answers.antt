use Rattle.suit_cards.proofs.MaskMeanings.{same_masks}
use Rattle.suit_cards.proofs.holdings.HoldingPartialEq.eq.Goals as goal

pub returns : goal.returns
returns c =
    rw (← c.self.view_is, ← c.other.view_is)
    (same_masks c.self.inside.mask c.other.inside.mask c.self.invariant c.other.invariant)
