use Rattle.std.proofs.Common.{◌≡◌, ◌≤◌, length, map, take}
use Rattle.std.specs.List.{flat_map}
use Rattle.suit_program.specs.Programs.{held_column}
use Rattle.suit_program.specs.Walks.Reaches.{Reached}
use Rattle.suit_program.proofs.lemmas.Walks.NodesBelow.{layout_at}
use Rattle.suit_program.proofs.walks.columns.held_columns.Given as goal

abbrev pub invariant-loop-layout : goal.invariant-loop-layout
invariant-loop-layout l = record {
  few : l.columns ≤ l.layout-index;
  told : Reached l.reach (λ question support history. l.columns ≡ length (flat_map (held_column question history)
      (map (layout_at question) (map (λ layout. layout.index) (take l.layout-index l.layout-items)))));
}
