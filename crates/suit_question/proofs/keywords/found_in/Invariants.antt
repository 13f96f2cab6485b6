-- The keyword of a word is found in the rest of the table.
use Rattle.std.proofs.Common.{◌≡◌, length, map}
use Rattle.suit_question.specs.Keywords.{named_in}
use Rattle.suit_question.proofs.keywords.found_in.Given as goal

abbrev pub invariant-loop-table : goal.invariant-loop-table
invariant-loop-table l =
    named_in (map (λ entry. (entry.0.now, entry.1)) l.table) l.word
    ≡ named_in (map (λ entry. (entry.0.now, entry.1)) l.initial.table) l.word

abbrev pub decreases-loop-table : goal.decreases-loop-table
decreases-loop-table l = length l.table
