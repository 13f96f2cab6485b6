use Rattle.std.proofs.Common.{arith, refl, ◌∙◌}
use Rattle.suit_cards.specs.Masks.{marks, suit_is}
use Rattle.suit_cards.proofs.SuitRuns.{IsHolding-filter_suit}
use Rattle.suit_cards.proofs.RankRuns.{run-marked, run-unmarked, run-over}
use Rattle.suit_cards.proofs.holdings.Holding.ranks.Goals as goal

pub loop-index-init : goal.loop-index-init
loop-index-init c = record {
  so_far = rw (c.new-ranks.ensures, ← suit_is) refl;
  room = rw c.new-ranks.ensures (omega arith);
}

pub loop-index-preserved-then-self-index-eq1 : goal.loop-index-preserved-then-self-index-eq1
loop-index-preserved-then-self-index-eq1 c = record {
  so_far = rw c.push.ensures.items
      (run-marked c.self.inside.mask c.loop-index.index c.at.result c.loop-index.ranks.items _
      (omega arith) c.at.ensures c.if-self-index-eq1.true c.loop-index.invariant.so_far);
  room = omega (arith, c.push.ensures.len);
}

pub loop-index-preserved : goal.loop-index-preserved
loop-index-preserved c = record {
  so_far = run-unmarked c.self.inside.mask c.loop-index.index c.loop-index.ranks.items _
      (omega arith) c.if-self-index-eq1.false c.loop-index.invariant.so_far;
  room = omega arith;
}

pub returns-clause-value : goal.returns-clause-value
returns-clause-value c =
    run-over c.self.inside.mask c.loop-index.index c.loop-index.ranks.items _ (omega arith)
    c.loop-index.invariant.so_far
    ∙ c.self.view_is

pub returns-clause-holding : goal.returns-clause-holding
returns-clause-holding c = rw (← c.self.view_is) (IsHolding-filter_suit (marks c.self.inside.mask))
