use Rattle.std.proofs.Common.{◌≡◌, take}
use Rattle.std.specs.Prelude.{map}
use Rattle.suit_game.specs.declared.moves.Move.TheVariants.{Follow}
use Rattle.suit_game.proofs.place.follows_from.Given as goal

abbrev pub invariant-loop-rank : goal.invariant-loop-rank
invariant-loop-rank l = l.follows.items ≡ map Follow (take l.rank-index l.rank-items)
