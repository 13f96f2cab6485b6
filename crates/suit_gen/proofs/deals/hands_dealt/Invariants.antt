use Rattle.std.proofs.Common.{◌≡◌, ◌-◌}
use Rattle.suit_gen.specs.Draws.{state_after}
use Rattle.suit_gen.proofs.Dealing.{cards_left}
use Rattle.suit_gen.proofs.deals.hands_dealt.Given as goal

abbrev pub invariant-loop-rank : goal.invariant-loop-rank
invariant-loop-rank l = record {
  state : l.draws.state ≡ state_after (l.rank-index - 1) l.fn.draws.state;
  north : l.hands.north ≡ cards_left l.rank-index 0 l.fn.draws.state;
  south : l.hands.south ≡ cards_left l.rank-index 1 l.fn.draws.state;
}
