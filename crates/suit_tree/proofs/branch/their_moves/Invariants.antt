use Rattle.std.proofs.Common.{◌≡◌, length}
use Rattle.std.specs.Prelude.{map}
use Rattle.std.specs.List.{range_with_len}
use Rattle.suit_classes.specs.declared.class_moves.ClassMove.TheVariants.{Follow}
use Rattle.suit_tree.proofs.branch.their_moves.Given as goal

abbrev pub invariant-loop-class : goal.invariant-loop-class
invariant-loop-class l = record {
  so_far : l.moves.items ≡ map Follow (range_with_len 0 l.class);
  long : length l.moves.items ≡ l.class;
}
