use Rattle.std.proofs.Common.{take}
use Rattle.suit_program.specs.Walks.Writing.{AreAnswered, IsAsked}
use Rattle.suit_program.proofs.walks.writing.answered.Given as goal

abbrev pub invariant-loop-place : goal.invariant-loop-place
invariant-loop-place l = (case : IsAsked l.fn.ledger l.reach l.accounts)
    → AreAnswered case.question case.support case.history (take l.place l.accounts) l.fn.ledger l.ledger l.answers.items
