use Rattle.std.proofs.Common.{◌≡◌, ◌*ℤ◌, [], get_or, map, pos}
use Rattle.std.specs.List.{range_with_len}
use Rattle.suit_reply.proofs.against_defence.AgainstDefence.whole_masses.Given as goal

abbrev pub invariant-loop-index : goal.invariant-loop-index
invariant-loop-index l =
    l.masses.items ≡ map (λ index. (index, pos (get_or l.fn.self.layouts.now index ([], 0)).1 *ℤ l.fn.den))
    (range_with_len 0 l.index)
