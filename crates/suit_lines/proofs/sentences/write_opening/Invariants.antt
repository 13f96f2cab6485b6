-- The words so far, and the place after the moves that they tell.
use Rattle.std.proofs.Common.{◌≡◌, ◌++◌, take}
use Rattle.std.specs.Prelude.{codes}
use Rattle.suit_classes.specs.ClassPlaces.{class_after, class_start}
use Rattle.suit_lines.specs.Sentences.{joined, words_from}
use Rattle.suit_lines.proofs.sentences.write_opening.Given as goal

abbrev pub invariant-loop-index : goal.invariant-loop-index
invariant-loop-index l = record {
  so_far : l.text.items ≡ l.initial.text.items
      ++ joined (codes ", ") (words_from l.letters (class_start l.question) (take l.index l.history));
  place : l.place ≡ class_after l.question (take l.index l.history);
}
