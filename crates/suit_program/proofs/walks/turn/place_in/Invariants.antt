use Rattle.std.proofs.Common.{◌≡◌, ◌+◌, drop}
use Rattle.suit_program.specs.Walks.Writing.{place_in}
use Rattle.suit_program.proofs.walks.turn.place_in.Given as goal

abbrev pub invariant-loop-index : goal.invariant-loop-index
invariant-loop-index l = place_in l.moves l.mv ≡ l.index + place_in (drop l.index l.moves) l.mv
