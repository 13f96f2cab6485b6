use Rattle.suit_cards.proofs.MaskMeanings.{ranks_of-set, set_small}
use Rattle.suit_cards.proofs.holdings.Holding.with.Goals as goal

pub invariant_of-result : goal.invariant_of-result
invariant_of-result c = set_small c.self.inside.mask c.index.result c.self.invariant c.index.ensures.below

pub returns-clause-value : goal.returns-clause-value
returns-clause-value c =
    rw (← c.self.view_is) (ranks_of-set c.self.inside.mask c.index.result c.args.rank c.index.ensures.value
    c.index.ensures.below)
