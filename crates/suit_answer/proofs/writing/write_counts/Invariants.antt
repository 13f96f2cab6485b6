-- The words so far.
use Rattle.std.proofs.Common.{◌≡◌, ◌++◌, map, take, decimal}
use Rattle.suit_answer.specs.Writing.{spaced}
use Rattle.suit_answer.proofs.writing.write_counts.Given as goal

abbrev pub invariant-loop-count : goal.invariant-loop-count
invariant-loop-count l = l.text.items ≡ l.initial.text.items ++ spaced (map decimal (take l.count-index l.counts))
