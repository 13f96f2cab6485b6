use Rattle.std.proofs.Common.{◌≡◌, ◌++◌, ◌+◌, ◌*◌, length}
use Rattle.std.specs.Prelude.{map}
use Rattle.std.specs.List.{range_with_len}
use Rattle.suit_cards.specs.declared.seats.Seat.TheVariants.{N, S}
use Rattle.suit_classes.specs.declared.class_moves.ClassMove.TheVariants.{Lead, Follow}
use Rattle.suit_classes.specs.ClassPlaces.{class_numbers}
use Rattle.suit_classes.specs.declared.classes.TheConstants.{MOST_CLASSES}
use Rattle.suit_lines.proofs.moves.every_move.Given as goal

abbrev pub invariant-loop-north : goal.invariant-loop-north
invariant-loop-north l = record {
  so_far : l.moves.items ≡ map (Lead N) (range_with_len 0 l.north);
  long : length l.moves.items ≡ l.north;
}

abbrev pub invariant-loop-south : goal.invariant-loop-south
invariant-loop-south l = record {
  so_far : l.moves.items ≡ map (Lead N) class_numbers ++ map (Lead S) (range_with_len 0 l.south);
  long : length l.moves.items ≡ MOST_CLASSES + l.south;
}

abbrev pub invariant-loop-follow : goal.invariant-loop-follow
invariant-loop-follow l = record {
  so_far : l.moves.items
      ≡ map (Lead N) class_numbers ++ map (Lead S) class_numbers ++ map Follow (range_with_len 0 l.follow);
  long : length l.moves.items ≡ 2 * MOST_CLASSES + l.follow;
}
