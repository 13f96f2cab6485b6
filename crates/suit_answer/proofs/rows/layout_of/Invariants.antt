-- The counts so far.
use Rattle.std.proofs.Common.{◌≡◌, take, length}
use Rattle.suit_answer.proofs.rows.layout_of.Given as goal

abbrev pub invariant-loop-count : goal.invariant-loop-count
invariant-loop-count l = record {
  told : l.layout.items ≡ take l.count-index l.counts;
  few : length l.layout.items ≡ l.count-index;
}
