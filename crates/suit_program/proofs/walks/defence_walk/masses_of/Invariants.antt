use Rattle.std.proofs.Common.{◌≡◌, map, pos, take}
use Rattle.std.specs.Prelude.{◌*ℤ◌}
use Rattle.suit_program.proofs.walks.defence_walk.masses_of.Given as goal

abbrev pub invariant-loop-index : goal.invariant-loop-index
invariant-loop-index l = l.masses.items ≡ map (λ layout. pos layout.1 *ℤ l.den) (take l.index l.layouts)
