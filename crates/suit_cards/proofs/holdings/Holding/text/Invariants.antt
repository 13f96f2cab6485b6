use Rattle.std.proofs.Common.{◌≡◌, take}
use Rattle.std.specs.Prelude.{map}
use Rattle.suit_cards.specs.Ranks.{letter_of}
use Rattle.suit_cards.proofs.holdings.Holding.text.Given as goal

abbrev pub invariant-loop-rank : goal.invariant-loop-rank
invariant-loop-rank l = l.text.bytes ≡ map letter_of (take l.rank-index l.rank-items)
