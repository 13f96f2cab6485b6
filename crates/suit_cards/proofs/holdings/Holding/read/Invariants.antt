use Rattle.std.proofs.Common.{◌≡◌, ◌-◌, ◌≤◌, length, drop}
use Rattle.suit_cards.specs.Holdings.{IsHolding}
use Rattle.suit_cards.specs.Reading.{spots_from, holding_read}
use Rattle.suit_cards.proofs.ReadingWhole.{read_on}
use Rattle.suit_cards.proofs.holdings.Holding.read.Given as goal

abbrev pub invariant-loop-at : goal.invariant-loop-at
invariant-loop-at l = record {
  inside : l.at ≤ length l.text;
  is_holding : IsHolding l.held;
  goes_on : read_on l.held (spots_from l.at (drop l.at l.text)) ≡ holding_read l.text;
}

abbrev pub decreases-loop-at : goal.decreases-loop-at
decreases-loop-at l = length l.text - l.at
