use Rattle.suit_linear_fast.proofs.CellSums.{AreZero}
use Rattle.suit_linear_fast.proofs.past_pivots.clear_all.Given as goal

abbrev pub invariant-loop-number : goal.invariant-loop-number
invariant-loop-number l = AreZero l.number-index l.numbers
