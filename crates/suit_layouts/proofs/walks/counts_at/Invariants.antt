use Rattle.suit_layouts.proofs.CountsAtAnIndex.{CountedOff}
use Rattle.suit_layouts.proofs.walks.counts_at.Given as goal

abbrev pub invariant-loop-size : goal.invariant-loop-size
invariant-loop-size l = CountedOff l.sizes l.counts.items l.size-index l.index l.left l.fn.index
