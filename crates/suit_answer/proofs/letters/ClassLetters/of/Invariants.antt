-- The letters of the classes so far.
use Rattle.std.proofs.Common.{◌≡◌, map, length}
use Rattle.std.specs.List.{range_with_len}
use Rattle.suit_classes.specs.Classes.{hands_of}
use Rattle.suit_answer.specs.Letters.{class_letter}
use Rattle.suit_answer.proofs.letters.ClassLetters.of.Given as goal

abbrev pub invariant-loop-class : goal.invariant-loop-class
invariant-loop-class l = record {
  told : l.letters.items ≡ map (class_letter (hands_of l.fn.question)) (range_with_len 0 l.class);
  few : length l.letters.items ≡ l.class;
}
