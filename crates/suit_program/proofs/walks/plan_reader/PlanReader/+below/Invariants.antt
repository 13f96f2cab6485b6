use Rattle.std.proofs.Common.{◌≡◌, ◌+◌, ◌-◌, ◌++◌, length, take}
use Rattle.suit_game.specs.declared.limits.TheConstants.{MOST_MOVES}
use Rattle.suit_program.specs.Walks.PlanWalks.{IsPlanStop, reading_of, row_here}
use Rattle.suit_program.specs.Programs.{columns_at}
use Rattle.suit_program.proofs.lemmas.Walks.WhatAWalkGathers.{gathered}
use Rattle.suit_program.proofs.walks.plan_reader.PlanReader.+below.Given as goal

abbrev pub decreases-below : goal.decreases-below
decreases-below l = MOST_MOVES - length l.history.now.items

abbrev pub invariant-loop-child : goal.invariant-loop-child
invariant-loop-child l = record {
  kept : l.history.items ≡ l.fn.history.items;
  after : (stop : IsPlanStop l.self l.reach l.fn.history.items l.fn.column l.mass) → l.after
      ≡ l.fn.column + length (gathered (columns_at stop.turn.question stop.turn.support) stop.turn.question
      stop.turn.support stop.turn.history (take l.child-index l.child-items));
  rows : (stop : IsPlanStop l.self l.reach l.fn.history.items l.fn.column l.mass) → l.rows.items
      ≡ l.fn.rows.items ++ gathered (row_here (reading_of stop.turn.question stop.turn.support stop.turn.optimum))
      stop.turn.question stop.turn.support stop.turn.history (take l.child-index l.child-items);
}
