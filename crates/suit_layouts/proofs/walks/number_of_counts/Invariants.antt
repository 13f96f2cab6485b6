use Rattle.std.proofs.Common.{◌≡◌, ◌*◌, length, drop}
use Rattle.suit_layouts.specs.ClassLayouts.{counts_up_to}
use Rattle.suit_layouts.proofs.walks.number_of_counts.Given as goal

abbrev pub invariant-loop-size : goal.invariant-loop-size
invariant-loop-size l = l.all * length (counts_up_to (drop l.size-index l.sizes)) ≡ length (counts_up_to l.sizes)
