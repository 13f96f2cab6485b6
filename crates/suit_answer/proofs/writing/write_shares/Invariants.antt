-- The words so far.
use Rattle.std.proofs.Common.{◌≡◌, ◌++◌, take}
use Rattle.std.specs.List.{flat_map}
use Rattle.suit_answer.specs.Writing.{spaced, share_words}
use Rattle.suit_answer.proofs.writing.write_shares.Given as goal

abbrev pub invariant-loop-mv : goal.invariant-loop-mv
invariant-loop-mv l = l.text.items ≡ l.initial.text.items
    ++ spaced (flat_map (share_words l.letters) (take l.mv-index l.shares))
