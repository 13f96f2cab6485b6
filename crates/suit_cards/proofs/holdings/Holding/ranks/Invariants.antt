use Rattle.std.proofs.Common.{◌≡◌, ◌+◌, ◌≤◌, ◌++◌, length}
use Rattle.std.specs.List.{filter}
use Rattle.suit_cards.specs.Masks.{marks, ranks_of, lowest}
use Rattle.suit_cards.proofs.holdings.Holding.ranks.Given as goal

abbrev pub invariant-loop-index : goal.invariant-loop-index
invariant-loop-index l = record {
  so_far : l.ranks.items ++ filter (marks l.self-inside.mask) (lowest l.index) ≡ ranks_of l.self-inside.mask;
  room : length l.ranks.items + l.index ≤ 13;
}
