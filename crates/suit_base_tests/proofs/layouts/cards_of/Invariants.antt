use Rattle.std.proofs.Common.{◌≡◌, ◌*◌, ◌≤◌, take, sum}
use Rattle.suit_base_tests.proofs.layouts.cards_of.Given as goal

abbrev pub invariant-loop-size : goal.invariant-loop-size
invariant-loop-size l = record {
  so_far : l.cards ≡ sum (take l.size-index l.sizes);
  small : l.cards ≤ 255 * l.size-index;
}
