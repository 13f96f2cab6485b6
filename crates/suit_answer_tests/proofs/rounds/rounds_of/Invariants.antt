-- A question is on its way through the rounds.
use Rattle.suit_solve.specs.Solving.{IsUnderWay}
use Rattle.suit_answer_tests.proofs.rounds.rounds_of.Given as goal

abbrev pub invariant-loop-index : goal.invariant-loop-index
invariant-loop-index l = IsUnderWay l.solving
