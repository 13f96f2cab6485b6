use Rattle.std.proofs.Common.{map, drop}
use Rattle.std.specs.Prelude.{Contains}
use Rattle.suit_program.proofs.walks.answer_rows.place_of.Given as goal

abbrev pub invariant-loop-place : goal.invariant-loop-place
invariant-loop-place l =
    Contains (map (λ layout. layout.index) l.reach.layouts.items) l.index
    → Contains (drop l.place (map (λ layout. layout.index) l.reach.layouts.items)) l.index
