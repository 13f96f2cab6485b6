use Rattle.std.proofs.Common.{take}
use Rattle.suit_tree.specs.Growing.{Tells}
use Rattle.suit_tree.proofs.offers.Offers.of.Given as goal

abbrev pub invariant-loop-mv : goal.invariant-loop-mv
invariant-loop-mv l = Tells l.offers (take l.mv-index l.moves)
