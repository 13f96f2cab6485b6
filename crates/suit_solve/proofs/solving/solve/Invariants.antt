-- A question is on its way through the rounds, and its fate is what becomes of it from there on.
use Rattle.suit_solve.specs.Fates.{lacking}
use Rattle.suit_solve.specs.Solving.{IsUnderWay, solving_seen}
use Rattle.suit_solve.proofs.FromRoundToRound.{IsWayOf}
use Rattle.suit_solve.proofs.solving.solve.Given as goal

abbrev pub invariant-loop-solving : goal.invariant-loop-solving
invariant-loop-solving l = IsUnderWay l.solving × IsWayOf l.question (solving_seen l.solving)

abbrev pub decreases-loop-solving : goal.decreases-loop-solving
decreases-loop-solving l = lacking l.question (solving_seen l.solving).support
