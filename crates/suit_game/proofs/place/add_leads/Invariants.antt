use Rattle.std.proofs.Common.{◌≡◌, ◌++◌, take}
use Rattle.std.specs.Prelude.{map}
use Rattle.suit_game.specs.declared.moves.Move.TheVariants.{Lead}
use Rattle.suit_game.proofs.place.add_leads.Given as goal

abbrev pub invariant-loop-rank : goal.invariant-loop-rank
invariant-loop-rank l = l.leads.items ≡ l.initial.leads.items ++ map (Lead l.seat) (take l.rank-index l.rank-items)
