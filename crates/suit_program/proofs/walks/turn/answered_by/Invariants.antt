use Rattle.std.proofs.Common.{◌≡◌, map, take}
use Rattle.suit_program.specs.Walks.Writing.{answer_seen, answered_by}
use Rattle.suit_program.proofs.walks.turn.answered_by.Given as goal

abbrev pub invariant-loop-answer : goal.invariant-loop-answer
invariant-loop-answer l = l.after.items ≡ answered_by (map answer_seen (take l.answer-index l.answers)) l.mv
