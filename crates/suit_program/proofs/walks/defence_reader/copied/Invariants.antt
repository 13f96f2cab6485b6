use Rattle.std.proofs.Common.{◌≡◌, take, length}
use Rattle.suit_program.proofs.walks.defence_reader.copied.Given as goal

abbrev pub invariant-loop-count : goal.invariant-loop-count
invariant-loop-count l = record {
  told : l.counts.items ≡ take l.count-index l.count-items;
  few : length l.counts.items ≡ l.count-index;
}
