use Rattle.std.proofs.Common.{◌-◌, ◌≡◌}
use Rattle.suit_layouts.specs.Walks.{IsWalk, weighed_from}
use Rattle.suit_layouts.proofs.walks.ClassWalkIterator.next.Given as goal

abbrev pub invariant-loop-self : goal.invariant-loop-self
invariant-loop-self l = record {
  walk : IsWalk l.self-inside.question.now l.self-inside.sizes.now l.self-inside.index l.self-inside.all;
  left : weighed_from l.self-inside.question.now l.self-inside.sizes.now l.self-inside.index ≡ l.fn.self;
}

abbrev pub decreases-loop-self : goal.decreases-loop-self
decreases-loop-self l = l.self-inside.all - l.self-inside.index
