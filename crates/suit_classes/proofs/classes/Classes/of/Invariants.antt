use Rattle.std.proofs.Common.{◌≡◌, ℕ, ◌-◌, ◌<◌, get_or, length}
use Rattle.suit_game.specs.declared.limits.TheConstants.{HAND_SIZE}
use Rattle.suit_classes.specs.Classes.{class_below, hands_of}
use Rattle.suit_classes.proofs.classes.Classes.of.Given as goal

abbrev pub invariant-loop-index : goal.invariant-loop-index
invariant-loop-index l = record {
  long : length l.numbers ≡ HAND_SIZE;
  numbered : (k : ℕ) → k < l.index → get_or l.numbers k 0 ≡ class_below (hands_of l.fn.question) k;
  class : l.class ≡ class_below (hands_of l.fn.question) (l.index - 1);
}
