use Rattle.std.proofs.Common.{◌≡◌, ◌++◌, drop, map}
use Rattle.suit_program.specs.Readings.{scaled}
use Rattle.suit_program.specs.Readings.Sharing.{counted}
use Rattle.suit_program.proofs.readings.sharing.scaled_counts.Given as goal

abbrev pub invariant-loop-index : goal.invariant-loop-index
invariant-loop-index l =
    l.shares.items ++ counted (drop l.index l.moves) (drop l.index (map (λ part. scaled l.fn.den (part.num, part.den))
    l.parts))
    ≡ counted l.moves (map (λ part. scaled l.fn.den (part.num, part.den)) l.parts)
