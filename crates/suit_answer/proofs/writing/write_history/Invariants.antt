-- The words so far.
use Rattle.std.proofs.Common.{◌≡◌, ◌++◌, map, take}
use Rattle.suit_answer.specs.Letters.{move_word}
use Rattle.suit_answer.specs.Writing.{spaced}
use Rattle.suit_answer.proofs.writing.write_history.Given as goal

abbrev pub invariant-loop-mv : goal.invariant-loop-mv
invariant-loop-mv l = l.text.items ≡ l.initial.text.items
    ++ spaced (map (move_word l.letters) (take l.mv-index l.history))
