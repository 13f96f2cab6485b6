-- The words so far.
use Rattle.std.proofs.Common.{◌≡◌, ◌++◌, map, take}
use Rattle.std.specs.Prelude.{codes}
use Rattle.suit_lines.specs.Sentences.{joined, move_share_words}
use Rattle.suit_lines.proofs.sentences.write_choice.Given as goal

abbrev pub invariant-loop-index : goal.invariant-loop-index
invariant-loop-index l = l.text.items ≡ l.initial.text.items
    ++ joined (codes "; ") (map (move_share_words l.letters l.turn l.mass l.split) (take l.index l.shares))
